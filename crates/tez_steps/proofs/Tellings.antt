-- Facts of what a store tells.
--     told_map, told_either, told_same     after a call
--     tells_still                          a store tells as it told
use Rattle.std.specs.Prelude.{◌≡◌, Option, Some, None, option_map, is_some, Result, Ok, Err, OnOk, OnErr, refl}
use Rattle.std.proofs.Common.{sym, ◌∙◌, ap, subst, inl, inr}
use Rattle.tez_ports.specs.Content.{Store, Told, IsEither}

pub told_map : (P Q : Store → Type 0) (old new : Option Store) (f : Store → Store) → new ≡ option_map f old → ((s : Store) → P s → Q (f s)) → Told old P → Told new Q
told_map P Q None new f e k t s is = cc
told_map P Q (Some x) new f e k t s is = let same : f x ≡ s = cc in subst Q same (k x (t x refl))

pub told_same : (P Q : Store → Type 0) (old new : Option Store) → new ≡ old → ((s : Store) → P s → Q s) → Told old P → Told new Q
told_same P Q old new e k t s is = k s (t s (sym e ∙ is))

pub told_either : (P Q : Store → Type 0) (old new : Option Store) (f : Store → Store) → IsEither f old new → ((s : Store) → P s → Q s) → ((s : Store) → P s → Q (f s)) → Told old P → Told new Q
told_either P Q old new f (inl e) k m t = told_same P Q old new e k t
told_either P Q old new f (inr e) k m t = told_map P Q old new f e m t

some_map : (f : Store → Store) (o : Option Store) → is_some (option_map f o) ≡ is_some o
some_map f None = refl
some_map f (Some s) = refl

some_either : (f : Store → Store) (old new : Option Store) → IsEither f old new → is_some new ≡ is_some old
some_either f old new (inl e) = ap is_some e
some_either f old new (inr e) = ap is_some e ∙ some_map f old

pub tells_still : {T E : Type 0} (f : Store → Store) (old new : Option Store) (r : Result T E) → OnOk r (new ≡ option_map f old) → OnErr r (IsEither f old new) → is_some new ≡ is_some old
tells_still f old new (Ok x) ok err = ap is_some ok ∙ some_map f old
tells_still f old new (Err e) ok err = some_either f old new err
