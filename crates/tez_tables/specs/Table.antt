-- An edge manager as a table: for each input of each consumer task it names an output of a source task.
--     slots t                     the consumers with their inputs, in order
--     route t s o                 those that lead to output o of source s
--     StaysInside t               each slot leads to an output that is there
--     HasOneConsumer t            each output is the input of exactly one consumer, once
--     ReachesEachConsumer t       each output is the input of every consumer, once
--     IsCovered t                 each output is an input of some consumer, and of none twice
--     one_to_one, broadcast, scatter_gather      the three tables
use Rattle.std.specs.Prelude.{◌≡◌, ℕ, ◌+◌, ◌-◌, ◌*◌, ◌/◌, ◌%◌, ◌<◌, ◌≤◌, ◌==◌, ◌&&◌, List, map, length}
use Rattle.std.specs.List.{filter, flat_map, range_with_len}
use Rattle.tez_shrink.specs.Formulas.{tasks_of, first_of, end_of}

pub record Table : Type 0 where
  pub sources : ℕ
  pub consumers : ℕ
  pub inputs_of : ℕ → ℕ
  pub outputs_of : ℕ → ℕ
  pub leads : ℕ → ℕ → ℕ × ℕ

abbrev pub slots : Table → List (ℕ × ℕ)
slots t = flat_map (λ c. map {B = ℕ × ℕ} (λ i. (c, i)) (range_with_len 0 (t.inputs_of c))) (range_with_len 0 t.consumers)

abbrev pub route : Table → ℕ → ℕ → List (ℕ × ℕ)
route t s o = filter (λ slot. (t.leads slot.0 slot.1).0 == s && (t.leads slot.0 slot.1).1 == o) (slots t)

pub record StaysInside (t : Table) : Type 0 where
  pub source : (c i : ℕ) → c < t.consumers → i < t.inputs_of c → (t.leads c i).0 < t.sources
  pub output : (c i : ℕ) → c < t.consumers → i < t.inputs_of c → (t.leads c i).1 < t.outputs_of (t.leads c i).0

abbrev pub HasOneConsumer : Table → Type 0
HasOneConsumer t = (s o : ℕ) → s < t.sources → o < t.outputs_of s → length (route t s o) ≡ 1

abbrev pub ReachesEachConsumer : Table → Type 0
ReachesEachConsumer t = (s o : ℕ) → s < t.sources → o < t.outputs_of s → map (λ slot. slot.0) (route t s o) ≡ range_with_len 0 t.consumers

-- what every edge manager keeps, also those of which neither of the two is true
pub record IsCovered (t : Table) : Type 0 where
  pub some : (s o : ℕ) → s < t.sources → o < t.outputs_of s → 0 < length (route t s o)
  pub once : (s o c : ℕ) → s < t.sources → o < t.outputs_of s → length (filter (λ slot. slot.0 == c) (route t s o)) ≤ 1

abbrev pub one_to_one : ℕ → Table
one_to_one tasks = record { sources = tasks; consumers = tasks; inputs_of = λ c. 1; outputs_of = λ s. 1; leads = λ c i. (c, 0) }

abbrev pub broadcast : ℕ → ℕ → Table
broadcast sources consumers = record { sources = sources; consumers = consumers; inputs_of = λ c. sources; outputs_of = λ s. 1; leads = λ c i. (i, 0) }

-- the partitions of a task, from each source in turn
abbrev pub scatter_gather : ℕ → ℕ → ℕ → Table
scatter_gather sources parts base =
    let width = λ (c : ℕ). end_of parts base c - first_of base c in
    record {
      sources = sources;
      consumers = tasks_of parts base;
      inputs_of = λ c. sources * width c;
      outputs_of = λ s. parts;
      leads = λ c i. (i / width c, first_of base c + i % width c);
    }
