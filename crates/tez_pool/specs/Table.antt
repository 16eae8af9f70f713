-- The table of a pool: what each call makes of it, and what it answers.
use Rattle.std.specs.Prelude.{ℕ, suc, ◌+◌, ◌*◌, ◌/◌, ◌%◌, Bool, true, false, ◌==◌, nat_lt, if◌then◌else◌, List, map, take, count_by, position, slice_get, slice_set, slice_range, Option, Some, None, is_some, is_none, replicate, option_and_then}
use Rattle.std.specs.List.{list_any, filter_map}
use Rattle.std.specs.Option.{option_map, option_map_or}
use Rattle.tez_lists.specs.Numbers.{numbers_from}
use Rattle.tez_lists.specs.Tables.{each_from}
use Rattle.tez_ids.specs.declared.AttemptId.{AttemptId}
use Rattle.tez_ids.specs.declared.ContainerId.{ContainerId}
use Rattle.tez_ids.specs.Same.{same_attempt}
use Rattle.tez_pool.specs.declared.place.Held.{Held}
use Rattle.tez_pool.specs.declared.place.Place.{Place}
use Rattle.tez_pool.specs.State.{PoolState}

abbrev pub free : ℕ → Place
free container = record { holder = None; container = record { 0 = container } }

-- containers are numbered from 0 in order of place
abbrev pub new_pool : ℕ → ℕ → Bool → PoolState
new_pool nodes per_node reuse =
    record { places = map free (numbers_from 0 (nodes * per_node)); lives = replicate nodes 0; next = nodes * per_node; per_node = per_node; reuse = reuse }

-- ---- who holds what

abbrev pub is_by : AttemptId → Option Held → Bool
is_by a None = false
is_by a (Some h) = same_attempt a h.attempt

abbrev pub holds : AttemptId → Place → Bool
holds a p = is_by a p.holder

abbrev pub is_free : Place → Bool
is_free p = is_none p.holder

abbrev pub is_taken : Place → Bool
is_taken p = is_some p.holder

abbrev pub who : Place → Option AttemptId
who p = option_map (λ h. h.attempt) p.holder

-- whether the vertex of its holder, if it has one, is one of so many
abbrev pub is_within : ℕ → Place → Bool
is_within vertices p = option_map_or (λ a. nat_lt a.task.vertex.0 vertices) (who p) true

-- the place that an attempt holds
abbrev pub place_held : List Place → AttemptId → Option ℕ
place_held places a = position (holds a) places

-- whether the order of its holder went out
abbrev pub is_sent : Place → Bool
is_sent p = option_map_or (λ h. h.sent) p.holder false

abbrev pub sent_at : List Place → ℕ → Bool
sent_at places p = option_map_or is_sent (slice_get places p) false

-- the place of an attempt, and whether its order went out
abbrev pub place_of : List Place → AttemptId → Option (ℕ × Bool)
place_of places a = option_map (λ p. (p, sent_at places p)) (place_held places a)

-- the attempts at the places of a node, by place
abbrev pub held_on : PoolState → ℕ → List AttemptId
held_on s slot = filter_map who (slice_range s.places (slot * s.per_node) (slot * s.per_node + s.per_node))

-- ---- a place gets a holder, which waits

abbrev pub taken : AttemptId → Place → Place
taken a p = record p { holder = Some (record { attempt = a; sent = false }) }

abbrev pub take_place : PoolState → AttemptId → ℕ → Option Place → PoolState
take_place s a p None = s
take_place s a p (Some x) = if is_free x then record s { places = slice_set s.places p (taken a x) } else s

abbrev pub after_place : PoolState → AttemptId → ℕ → PoolState
after_place s a p = take_place s a p (slice_get s.places p)

-- the container of a place that is there and free
abbrev pub container_given : List Place → ℕ → Option ContainerId
container_given places p = option_and_then (λ x. if is_free x then Some x.container else None) (slice_get places p)

-- ---- the order of an attempt goes out

abbrev pub send_held : AttemptId → Option Held → Option Held
send_held a None = None
send_held a (Some h) = Some (if same_attempt a h.attempt then record h { sent = true } else h)

abbrev pub send_place : AttemptId → Place → Place
send_place a p = record p { holder = send_held a p.holder }

abbrev pub after_sent : PoolState → AttemptId → PoolState
after_sent s a = record s { places = map (send_place a) s.places }

-- ---- a place is freed: it gets a new number unless containers are used again

abbrev pub freed_place : Bool → ℕ → Place → Place
freed_place reuse next p = if reuse then record p { holder = None } else free next

-- how many numbers are given to so many freed places
abbrev pub numbers_for : Bool → ℕ → ℕ
numbers_for reuse freed = if reuse then 0 else freed

abbrev pub release_place : Bool → ℕ → AttemptId → Place → Place
release_place reuse next a p = if holds a p then freed_place reuse next p else p

-- the place that an attempt holds is free
abbrev pub after_release : PoolState → AttemptId → PoolState
after_release s a =
    record s { places = map (release_place s.reuse s.next a) s.places; next = s.next + numbers_for s.reuse (if list_any (holds a) s.places then 1 else 0) }

abbrev pub clear_place : Bool → ℕ → Place → Place
clear_place reuse next p = if is_taken p then freed_place reuse next p else p

-- the number for place p, where those that were held get new ones in order of place
abbrev pub number_in_order : List Place → ℕ → ℕ → ℕ
number_in_order places next p = next + count_by is_taken (take p places)

abbrev pub cleared : Bool → ℕ → List Place → List Place
cleared reuse next places = each_from 0 (λ p. clear_place reuse (number_in_order places next p)) places

-- every place is free
abbrev pub after_clear : PoolState → PoolState
after_clear s = record s { places = cleared s.reuse s.next s.places; next = s.next + numbers_for s.reuse (count_by is_taken s.places) }

-- ---- a node is lost: its places are free with new numbers, and it has the next life

abbrev pub lose_place : ℕ → ℕ → ℕ → ℕ → Place → Place
lose_place per_node slot next p x = if p / per_node == slot then free (next + p % per_node) else x

abbrev pub lose_life : ℕ → ℕ → ℕ → ℕ
lose_life slot s n = if slot == s then suc n else n

abbrev pub after_loss : PoolState → ℕ → PoolState
after_loss s slot = record s { places = each_from 0 (lose_place s.per_node slot s.next) s.places; lives = each_from 0 (lose_life slot) s.lives; next = s.next + s.per_node }
