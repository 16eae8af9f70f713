-- Names and their bytes.
--     put_found      what is put under a name is found there
use Rattle.std.proofs.Common.{◌≡◌, ℕ, List, [], ◌∷◌, ◌++◌, Bool, true, false, cond, not, Some, refl, bytes_eq}
use Rattle.std.proofs.lemmas.Slice.Eq.{bytes_eq-Decides}
use Rattle.tez_ports.specs.Content.{Named, bytes_of, without, put}

pub same_bytes : (name : List ℕ) → bytes_eq name name ≡ true
same_bytes name = (bytes_eq-Decides name name).1 refl

pub put_found : (name bytes : List ℕ) (entries : Named) → bytes_of name (put name bytes entries) ≡ Some bytes
put_found name bytes [] = rw (same_bytes name)
put_found name bytes (e ∷ es) = by (bytes_eq e.0 name) refl (put_found name bytes es) where
  by : (b : Bool) → bytes_eq e.0 name ≡ b → bytes_of name (put name bytes es) ≡ Some bytes
      → bytes_of name (cond (not b) (e ∷ without name es) (without name es) ++ (name, bytes) ∷ []) ≡ Some bytes
  by true is rest = rest
  by false is rest = rw is rest
