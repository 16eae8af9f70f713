-- The search for the first sink that was published before.
--     first_from g entries i     the first from a vertex on
--     first_start, first_found, first_passed, first_end     its steps
use Rattle.std.specs.Prelude.{◌≡◌, ℕ, suc, ◌+◌, ◌-◌, ◌<◌, ◌≤◌, Bool, true, false, if◌then◌else◌, List, ◌∷◌, length, slice_get, is_some, Option, Some, None, refl}
use Rattle.std.specs.List.{filter, find}
use Rattle.std.specs.Option.{option_map_or}
use Rattle.std.proofs.Common.{sym, ◌∙◌, ap, arith}
use Rattle.tez_lists.specs.Numbers.{numbers_from}
use Rattle.tez_plan.specs.Dag.{Dag}
use Rattle.tez_plan.specs.declared.parts.VertexSpec.{VertexSpec}
use Rattle.tez_ports.specs.Content.{Named, bytes_of}
use Rattle.tez_history.specs.Shape.{has_sink}
use Rattle.tez_sinks.specs.Sinks.{sink_name}
use Rattle.tez_steps.specs.Step.{first_published}

abbrev pub is_out_before : Dag → Named → ℕ → Bool
is_out_before g entries v = is_some (bytes_of (sink_name g v) entries)

abbrev pub first_from : Dag → Named → ℕ → Option ℕ
first_from g entries i = find (is_out_before g entries) (filter (has_sink g) (numbers_from i (length g.vertices - i)))

pub first_start : (g : Dag) (entries : Named) → first_from g entries 0 ≡ first_published g entries
first_start g entries = let all : length g.vertices - 0 ≡ length g.vertices = omega arith in ap (λ (n : ℕ). find (is_out_before g entries) (filter (has_sink g) (numbers_from 0 n))) all

pub first_end : (g : Dag) (entries : Named) (i : ℕ) → length g.vertices ≤ i → first_from g entries i ≡ None
first_end g entries i past = let none : length g.vertices - i ≡ 0 = omega arith in ap (λ (n : ℕ). find (is_out_before g entries) (filter (has_sink g) (numbers_from i n))) none

first_at : (g : Dag) (entries : Named) (i : ℕ) → i < length g.vertices → numbers_from i (length g.vertices - i) ≡ i ∷ numbers_from (i + 1) (length g.vertices - (i + 1))
first_at g entries i low =
    let more : length g.vertices - i ≡ suc (length g.vertices - (i + 1)) = omega arith in
    let next : suc i ≡ i + 1 = omega arith in
    ap (numbers_from i) more ∙ ap (λ (k : ℕ). i ∷ numbers_from k (length g.vertices - (i + 1))) next

told_by : (g : Dag) (entries : Named) (i : ℕ) (s : VertexSpec) (rest : List ℕ) (b : Bool) → slice_get g.vertices i ≡ Some s → option_map_or (λ name. is_some (bytes_of name entries)) s.sink false ≡ b
    → find (is_out_before g entries) (filter (has_sink g) (i ∷ rest)) ≡ (if b then Some i else find (is_out_before g entries) (filter (has_sink g) rest))
told_by g entries i s rest b there is = by s.sink refl is where
  by : (o : Option (List ℕ)) → s.sink ≡ o → option_map_or (λ name. is_some (bytes_of name entries)) o false ≡ b
      → find (is_out_before g entries) (filter (has_sink g) (i ∷ rest)) ≡ (if b then Some i else find (is_out_before g entries) (filter (has_sink g) rest))
  by None e k =
      let no : has_sink g i ≡ false = ap (λ (x : Option VertexSpec). option_map_or (λ (y : VertexSpec). is_some y.sink) x false) there ∙ ap is_some e in
      rw (no, sym k) refl
  by (Some name) e k =
      let has : has_sink g i ≡ true = ap (λ (x : Option VertexSpec). option_map_or (λ (y : VertexSpec). is_some y.sink) x false) there ∙ ap is_some e in
      let named : sink_name g i ≡ name = rw (there, e) refl in
      let out : is_out_before g entries i ≡ b = ap (λ (n : List ℕ). is_some (bytes_of n entries)) named ∙ k in
      rw (has, out) refl

pub first_found : (g : Dag) (entries : Named) (i : ℕ) (s : VertexSpec) → i < length g.vertices → slice_get g.vertices i ≡ Some s → option_map_or (λ name. is_some (bytes_of name entries)) s.sink false ≡ true → first_from g entries i ≡ Some i
first_found g entries i s low there is =
    ap (λ (ns : List ℕ). find (is_out_before g entries) (filter (has_sink g) ns)) (first_at g entries i low) ∙ told_by g entries i s (numbers_from (i + 1) (length g.vertices - (i + 1))) true there is

pub first_passed : (g : Dag) (entries : Named) (i : ℕ) (s : VertexSpec) → i < length g.vertices → slice_get g.vertices i ≡ Some s → option_map_or (λ name. is_some (bytes_of name entries)) s.sink false ≡ false → first_from g entries i ≡ first_from g entries (i + 1)
first_passed g entries i s low there is =
    ap (λ (ns : List ℕ). find (is_out_before g entries) (filter (has_sink g) ns)) (first_at g entries i low) ∙ told_by g entries i s (numbers_from (i + 1) (length g.vertices - (i + 1))) false there is
