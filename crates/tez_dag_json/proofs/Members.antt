-- The members of a vertex, in the order of their keys.
use Rattle.std.proofs.Common.{◌≡◌, ℕ, List, Option, Some, None, codes, refl}
use Rattle.serde_json.specs.Data.{Data, no_members, member}
use Rattle.tez_dag_json.specs.Canonical.{if_there, with_text}

pub with_texts : (head name steps tasks : Data) (source sink : Option (List ℕ))
    → with_text (codes "sink") sink (with_text (codes "source") source (member (codes "head") head (member (codes "name") name (member (codes "steps") steps (member (codes "tasks") tasks no_members)))))
    ≡ member (codes "head") head (member (codes "name") name (if_there (codes "sink") sink (if_there (codes "source") source (member (codes "steps") steps (member (codes "tasks") tasks no_members)))))
with_texts head name steps tasks None None = refl
with_texts head name steps tasks None (Some sink) = refl
with_texts head name steps tasks (Some source) None = refl
with_texts head name steps tasks (Some source) (Some sink) = refl
