-- The sink of which the store may be asked, and the one that may be published, are recorded next.
use Rattle.std.specs.Prelude.{◌≡◌, ℕ, ◌&&◌, Bool, true, false, refl}
use Rattle.tez_ids.specs.declared.VertexId.{VertexId}
use Rattle.tez_events.specs.declared.CoreEvent.TheVariants.{Publish}
use Rattle.tez_master_model.specs.State.{MasterState}
use Rattle.tez_master_model.specs.Read.{is_next, is_running}
use Rattle.tez_master_model.specs.Enabled.{enabled_in, may_ask}

third : (a b c d : Bool) → (a && (b && (c && d))) ≡ true → c ≡ true
third true true true d h = refl
third true true false d h = cc
third true false c d h = cc
third false b c d h = cc

pub asked_next : (m : MasterState) (v : ℕ) → may_ask m v ≡ true → is_next m v ≡ true
asked_next m v h = third (is_running m) m.found (is_next m v) _ h

pub published_next : (m : MasterState) (v : VertexId) → enabled_in m (Publish v) ≡ true → is_next m v.0 ≡ true
published_next m v h = third (is_running m) m.committing (is_next m v.0) _ h
