-- An answer that is put into effect.
use Rattle.std.specs.Prelude.{◌≡◌, ◌+◌, ◌<◌, ◌^◌, Bool, true, false, not, List, [], ◌∷◌, length, Some, None, IfSome, refl}
use Rattle.std.proofs.Common.{ap, sym, ◌∙◌, subst, arith}
use Rattle.tez_conf.specs.declared.values.ConfValues.{ConfValues}
use Rattle.tez_events.specs.declared.Entry.{Entry}
use Rattle.tez_events.specs.declared.CoreEvent.{CoreEvent}
use Rattle.tez_events.specs.declared.CoreEvent.TheVariants.{Open, Configure, Queue, Place, Fetch, Send, Preempt, Fail, LoseNode, LoseOutput, Restart, Ready, CommitStart, Ask, Publish, Finish, Purge}
use Rattle.tez_meaning.specs.Jobs.{Job}
use Rattle.tez_history.specs.History.{Past, extend}
use Rattle.tez_history.specs.Steps.{entries_of}
use Rattle.tez_master_model.specs.declared.why.Why.{Why}
use Rattle.tez_master_model.specs.State.{MasterState}
use Rattle.tez_master_model.specs.Steady.{IsSteady}
use Rattle.tez_master_model.specs.Enabled.{enabled_in, why_not}
use Rattle.tez_master_model.specs.Entries.{entries_in}
use Rattle.tez_master_model.specs.Settled.{settled}
use Rattle.tez_master_view.specs.Laws.{IsMasters}
use Rattle.tez_master_view.specs.View.{master_view}
use Rattle.tez_log.specs.Log.{LogState}
use Rattle.tez_master.specs.Master.{Step, Took, MasterParts, settled_by, entries_told, is_ignored, IsIgnoredFor, HasNumbers}
use Rattle.tez_master.specs.declared.handled.Handled.{Handled}
use Rattle.tez_master.specs.declared.handled.Handled.TheVariants.{Done, Single, Ignored as IsIgnored}
use Rattle.tez_world_invariant.specs.Keeping.{Parts, most_entries}
use Rattle.tez_world_invariant.specs.Step.{later, stepped}
use Rattle.tez_world_invariant.proofs.PartsNumbers.{parts_attempts, parts_nodes, parts_lives, parts_containers, parts_steady}
use Rattle.tez_world_invariant.proofs.PartsTaking.{events_taken}
use Rattle.tez_steps.specs.declared.running.Running.{Running}
use Rattle.tez_steps.specs.declared.verdict.Took.TheVariants.{Changed, Ignored}
use Rattle.tez_steps.specs.Step.{Notes}
use Rattle.tez_steps.specs.Holds.{parts_of, Holds, with_right_notes, notes_of}
use Rattle.tez_steps.specs.Parts.{SameParts, SameLog, IsAsked, IsTaken}

-- ---- of a world that holds

pub numbers_of : (job : Job) (c : ConfValues) (r : Running) (past : Past) → Holds job c (parts_of r) past → HasNumbers r.master.state
numbers_of job c r past h = record {
  tasks = λ t. parts_attempts job c (with_right_notes job (parts_of r)) past h t;
  nodes = let is : length r.master.state.pool.lives ≡ r.master.state.conf.nodes = parts_nodes job c (with_right_notes job (parts_of r)) past h in omega arith;
  lives = λ slot life is. subst (λ o. IfSome o (λ l. l < 2 ^ 63)) is (parts_lives job c (with_right_notes job (parts_of r)) past h slot);
  containers = parts_containers job c (with_right_notes job (parts_of r)) past h;
}

pub steady_of : (job : Job) (c : ConfValues) (r : Running) (past : Past) → Holds job c (parts_of r) past → IsSteady r.master.state
steady_of job c r past h = parts_steady job c (with_right_notes job (parts_of r)) past h

pub master_of : (job : Job) (c : ConfValues) (r : Running) (past : Past) → Holds job c (parts_of r) past → r.master.state ≡ master_view job.plan c past
master_of job c r past h = h.master

pub masters_event : (m : MasterState) (e : CoreEvent) → enabled_in m e ≡ true → IsMasters e
masters_event m Open is = cc
masters_event m (Configure v) is = tt
masters_event m (Queue t) is = tt
masters_event m (Place a p) is = tt
masters_event m (Fetch a e i) is = tt
masters_event m (Send a) is = tt
masters_event m (Preempt a) is = tt
masters_event m (Fail a) is = tt
masters_event m (LoseNode slot) is = tt
masters_event m (LoseOutput t) is = tt
masters_event m Restart is = cc
masters_event m (Ready v) is = tt
masters_event m CommitStart is = tt
masters_event m (Ask v) is = cc
masters_event m (Publish v) is = tt
masters_event m Finish is = tt
masters_event m Purge is = tt

pub on_state : (job : Job) (c : ConfValues) (r : Running) (past : Past) (e : CoreEvent) → Holds job c (parts_of r) past → enabled_in (master_view job.plan c past) e ≡ true → enabled_in r.master.state e ≡ true
on_state job c r past e h is = ap (λ m. enabled_in m e) h.master ∙ is

pub entries_taken : (job : Job) (c : ConfValues) (r : Running) (past : Past) (e : CoreEvent) → Holds job c (parts_of r) past → enabled_in (master_view job.plan c past) e ≡ true → entries_in r.master.state e ≡ entries_of job.plan c past e
entries_taken job c r past e h is =
    let on : enabled_in r.master.state e ≡ true = ap (λ m. enabled_in m e) h.master ∙ is in
    events_taken job c (with_right_notes job (parts_of r)) past e h (masters_event r.master.state e on) on

-- ---- parts

same_parts : (a b : Parts) → a.master ≡ b.master → a.seats ≡ b.seats → a.shelves ≡ b.shelves → a.texts ≡ b.texts → a.sums ≡ b.sums → a ≡ b
same_parts a b m d s t u =
    ap (λ x. record { master = x; seats = a.seats; shelves = a.shelves; texts = a.texts; sums = a.sums }) m
    ∙ ap (λ x. record { master = b.master; seats = x; shelves = a.shelves; texts = a.texts; sums = a.sums }) d
    ∙ ap (λ x. record { master = b.master; seats = b.seats; shelves = x; texts = a.texts; sums = a.sums }) s
    ∙ ap (λ x. record { master = b.master; seats = b.seats; shelves = b.shelves; texts = x; sums = a.sums }) t
    ∙ ap (λ x. record { master = b.master; seats = b.seats; shelves = b.shelves; texts = b.texts; sums = x }) u

pub length_extend : (past : Past) (es : List Entry) → length (extend past es) ≡ length past + length es
length_extend past [] = omega arith
length_extend past (e ∷ es) = let rest = length_extend (e ∷ past) es in omega arith

pub same_both : (a b : Notes) → a.texts ≡ b.texts → a.sums ≡ b.sums → a ≡ b
same_both a b t u = ap (λ x. record { texts = x; sums = a.sums }) t ∙ ap (λ x. record { texts = b.texts; sums = x }) u

-- the notes of a world that has settled
pub notes_settled : (old r after : Running) → notes_of r ≡ notes_of old → after.texts.items ≡ r.texts.items → after.sums.items ≡ r.sums.items → notes_of after ≡ notes_of old
notes_settled old r after same t u = same_both (notes_of after) (notes_of r) t u ∙ same

-- ---- an answer

not_is : (b c : Bool) → b ≡ not c → b ≡ false → c ≡ true
not_is b true e f = refl
not_is b false e f = cc

not_is_true : (b c : Bool) → b ≡ not c → b ≡ true → c ≡ false
not_is_true b false e f = refl
not_is_true b true e f = cc

pub is_on : (m : MasterState) (e : CoreEvent) (h : Handled) → is_ignored h ≡ not (enabled_in m e) → is_ignored h ≡ false → enabled_in m e ≡ true
is_on m e h taken went = not_is (is_ignored h) (enabled_in m e) taken went

-- an event that was not taken
pub ignored : (job : Job) (c : ConfValues) (e : CoreEvent) (r after : Running) (log then_log : LogState) (h : Handled) (why : Why) → h ≡ IsIgnored why
    → is_ignored h ≡ not (enabled_in (master_view job.plan c log.past) e) → IsIgnoredFor h (why_not (master_view job.plan c log.past) e)
    → SameParts r after → SameLog log then_log → IsTaken job c e r log (Ignored why) after then_log
ignored job c e r after log then_log h why is taken grounds parts logs = (
  not_is_true (is_ignored h) (enabled_in (master_view job.plan c log.past) e) taken (ap is_ignored is),
  subst (λ x. IsIgnoredFor x (why_not (master_view job.plan c log.past) e)) is grounds,
  parts,
  logs,
)

-- what came of the parts between the answer and its settling, and of the settling
pub record IsSettled (r mid after : Running) (log then_log : LogState) (h : Handled) : Type 0 where
  pub kept : mid.master ≡ r.master
  pub master : (s : Step) → mid.master.pending ≡ Some s → after.master ≡ record { state = settled_by mid.master.state s; pending = None }
  pub seats : after.seats ≡ mid.seats
  pub shelves : after.shelves ≡ mid.shelves
  pub texts : after.texts.items ≡ r.texts.items
  pub sums : after.sums.items ≡ r.sums.items
  pub past : then_log.past ≡ extend log.past (entries_told h)

settled_master : (job : Job) (c : ConfValues) (e : CoreEvent) (es : List Entry) (r mid after : Running) (log then_log : LogState) (h : Handled) → IsAsked (Took e) es h r log → IsSettled r mid after log then_log h
    → after.master.state ≡ settled r.master.state e
settled_master job c e es r mid after log then_log h asked s =
    ap (λ (m : MasterParts). m.state) (s.master (Took e) (ap (λ (m : MasterParts). m.pending) s.kept ∙ asked.pending))
    ∙ ap (λ (m : MasterParts). settled m.state e) s.kept

stepped_parts : (job : Job) (c : ConfValues) (e : CoreEvent) (es : List Entry) (old r mid after : Running) (log then_log : LogState) (h : Handled) → SameParts old r → IsAsked (Took e) es h r log → IsSettled r mid after log then_log h
    → parts_of after ≡ stepped (parts_of old) e mid.seats.seats mid.shelves
stepped_parts job c e es old r mid after log then_log h same asked s =
    same_parts (parts_of after) (stepped (parts_of old) e mid.seats.seats mid.shelves)
    (settled_master job c e es r mid after log then_log h asked s ∙ ap (λ (ps : Parts). settled ps.master e) same.parts)
    (ap (λ d. d.seats) s.seats)
    s.shelves
    (s.texts ∙ ap (λ (ps : Parts). ps.texts) same.parts)
    (s.sums ∙ ap (λ (ps : Parts). ps.sums) same.parts)

pub later_past : (job : Job) (c : ConfValues) (e : CoreEvent) (r mid after : Running) (old log then_log : LogState) (h : Handled) → SameLog old log → IsAsked (Took e) (entries_of job.plan c old.past e) h r log
    → IsSettled r mid after log then_log h → then_log.past ≡ later job c old.past e
later_past job c e r mid after old log then_log h same asked s = s.past ∙ ap (λ p. extend p (entries_told h)) same.past ∙ ap (extend old.past) asked.told

pub short_later : (job : Job) (c : ConfValues) (e : CoreEvent) (r : Running) (old log : LogState) (h : Handled) → SameLog old log → IsAsked (Took e) (entries_of job.plan c old.past e) h r log
    → length (later job c old.past e) < most_entries
short_later job c e r old log h same asked =
    subst (λ n. n < most_entries) (sym (length_extend old.past (entries_of job.plan c old.past e)))
    (subst (λ p. length p + length (entries_of job.plan c old.past e) < most_entries) same.past asked.short)

-- what holds after it, by what the event makes of the parts
pub holds_after : (job : Job) (c : ConfValues) (e : CoreEvent) (old r mid after : Running) (old_log log then_log : LogState) (h : Handled) → SameParts old r → SameLog old_log log
    → IsAsked (Took e) (entries_of job.plan c old_log.past e) h r log → IsSettled r mid after log then_log h
    → Holds job c (stepped (parts_of old) e mid.seats.seats mid.shelves) (later job c old_log.past e)
    → Holds job c (parts_of after) then_log.past
holds_after job c e old r mid after old_log log then_log h same same_log asked s holds =
    subst (λ ps. Holds job c ps then_log.past) (sym (stepped_parts job c e (entries_of job.plan c old_log.past e) old r mid after log then_log h same asked s))
    (subst (λ p. Holds job c (stepped (parts_of old) e mid.seats.seats mid.shelves) p) (sym (later_past job c e r mid after old_log log then_log h same_log asked s)) holds)

pub changed : (job : Job) (c : ConfValues) (e : CoreEvent) (old r mid after : Running) (old_log log then_log : LogState) (h : Handled) → enabled_in (master_view job.plan c old_log.past) e ≡ true
    → SameParts old r → SameLog old_log log → IsAsked (Took e) (entries_of job.plan c old_log.past e) h r log → IsSettled r mid after log then_log h
    → Holds job c (stepped (parts_of old) e mid.seats.seats mid.shelves) (later job c old_log.past e)
    → IsTaken job c e old old_log Changed after then_log
changed job c e old r mid after old_log log then_log h on same same_log asked s holds =
    (on, holds_after job c e old r mid after old_log log then_log h same same_log asked s holds, later_past job c e r mid after old_log log then_log h same_log asked s)

pub went : (h : Handled) → ((why : Why) → h ≡ IsIgnored why → ⊥) → is_ignored h ≡ false
went (Done effects) other = refl
went (Single entry kept) other = refl
went (IsIgnored why) other = absurd (other why refl)
