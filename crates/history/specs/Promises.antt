-- What is promised of every history, refused calls among it: the statements that proofs/Promises.antt proves. Each but the last begins with
-- an opening that was given 0 on a memory of any length and content; so it holds afresh of every further opening in the history.
use Rattle.std.specs.Prelude.{Bool, true, false, List, [], ◌∷◌, ◌≢◌, ◌≡◌, ℕ, ◌+◌, ◌*◌, ◌^◌, ◌≤◌, ◌<◌, eqb, length, drop}
use Rattle.answers.specs.Number.{number_of}
use Rattle.answers.specs.Answer.{Done, BadWorld}
use Rattle.base.specs.Choose.{pick}
use Rattle.manager_calls.specs.Calls as manager
use Rattle.revocation_calls.specs.Calls as revocation
use Rattle.space.specs.Words.{generation_of}
use Rattle.space_calls.specs.Calls as space
use Rattle.space_reads.specs.Calls as space_reads
use Rattle.steps.specs.Replies.{Left}
use Rattle.steps.specs.Steps.{space_of}
use Rattle.token.specs.Token.{made}
use Rattle.token.specs.declared.capability.CapabilityToken.{CapabilityToken}
use Rattle.std.specs.Prelude.{Ok}
use Rattle.world.specs.Numbers.{numbers_of}
use Rattle.world.specs.Open.{opening}
use Rattle.world.specs.Regions.{length_for}
use Rattle.world.specs.Sound.{sound_test}
use Rattle.world.specs.declared.Numbers.{Numbers}
use Rattle.history.specs.Call.{Call, open_world, reads, accepts, changes, space_lookup, space_lookup_entry, space_check_rights, space_get_entry, space_remove, space_revoke, check, revoke_held}
use Rattle.history.specs.Counts.{all_accepted, all_moved}
use Rattle.history.specs.Perform.{Answered, answer_of, perform, after}
use Rattle.history.specs.Walks.{Walk, Walks}

abbrev pub is_opening : Call → Bool
is_opening (open_world d quotas) = true
is_opening (reads call) = false
is_opening (accepts call) = false
is_opening (changes call) = false

-- A call that opens the memory anew: an opening that is given 0.
abbrev pub reopens : Call → List ℕ → Bool
reopens (open_world d quotas) mem = eqb (number_of (opening d quotas mem).answer) 0
reopens (reads call) mem = false
reopens (accepts call) mem = false
reopens (changes call) mem = false

-- There is one in the history; what holds since the opening then holds since that one.
unfoldable pub reopened : List Call → List ℕ → Bool
reopened [] mem = false
reopened (call ∷ later) mem = pick (reopens call mem) true (reopened later (perform call mem).memory)

-- From an opening on, through any calls, no call but a new opening is given 26.
abbrev pub NeverBadWorld : Type 0
NeverBadWorld =
    (d : Numbers) (quotas mem : List ℕ) → (opening d quotas mem).answer ≡ Done → (history : List Call) (call : Call)
    → is_opening call ≡ false
    → answer_of (perform call (after history (opening d quotas mem).memory)).reply ≢ BadWorld

-- The memory is sound at every moment: the look over it is true.
abbrev pub AlwaysSound : Type 0
AlwaysSound =
    (d : Numbers) (quotas mem : List ℕ) → (opening d quotas mem).answer ≡ Done → (history : List Call)
    → sound_test (after history (opening d quotas mem).memory) ≡ true

-- The memory keeps its length.
abbrev pub LengthNeverChanged : Type 0
LengthNeverChanged =
    (d : Numbers) (quotas mem : List ℕ) → (opening d quotas mem).answer ≡ Done → (history : List Call)
    → length (after history (opening d quotas mem).memory) ≡ length mem

-- Until it is opened anew it keeps its numbers too, and every word past the length that it needs.
pub record Stays (d : Numbers) (before now : List ℕ) : Type 0 where
  pub numbers : numbers_of now ≡ d
  pub same_length : length now ≡ length before
  pub past : drop (length_for d) now ≡ drop (length_for d) before

abbrev pub PastNeverChanged : Type 0
PastNeverChanged =
    (d : Numbers) (quotas mem : List ℕ) → (opening d quotas mem).answer ≡ Done → (history : List Call)
    → reopened history (opening d quotas mem).memory ≡ false → Stays d mem (after history (opening d quotas mem).memory)

-- Every walk that a call makes visits at most one slot more than the live and removed entries in its table when it begins.
abbrev pub ShortWalks : Type 0
ShortWalks =
    (d : Numbers) (quotas mem : List ℕ) → (opening d quotas mem).answer ≡ Done → (history : List Call) (call : Call) (w : Walk)
    → Walks (after history (opening d quotas mem).memory) call w → w.visits ≤ w.live + w.removed + 1

-- The visits that a call answers, on space s, are those of a walk that it makes.
abbrev pub Walked : List ℕ → Call → ℕ → Type 0
Walked mem call visits = (w : Walk) × (Walks mem call w × (visits ≡ w.visits))

pub record VisitsOf (mem : List ℕ) (s : ℕ) : Type 0 where
  pub of_lookup : (token : ℕ) → Walked mem (changes (space_lookup s token)) (space_reads.lookup_out mem s token).reply.count
  pub of_lookup_entry :
      (token : ℕ) → Walked mem (changes (space_lookup_entry s token)) (space_reads.lookup_entry_out mem s token).reply.visits
  pub of_check_rights :
      (token required : ℕ)
      → Walked mem (changes (space_check_rights s token required)) (space_reads.check_rights_out mem s token required).reply.count
  pub of_get_entry : (id : ℕ) → id < 2 ^ 48 → Walked mem (reads (space_get_entry s id)) (space_reads.get_entry_out mem s id).visits
  pub of_remove : (token : ℕ) → Walked mem (changes (space_remove s token)) (space.remove_out mem s token).reply.count
  pub of_space_revoke :
      (id : ℕ) (t : CapabilityToken) → made id (generation_of (space_of (numbers_of mem) s mem)) 0 0 ≡ Ok t
      → Walked mem (changes (space_revoke s id)) (space.revoke_out mem s id).reply.count
  pub of_check : (token required : ℕ) → Walked mem (changes (check token required s)) (manager.check_out mem token required s).reply.count
  pub of_revoke_held :
      (token time : ℕ) (listed : List ℕ) → length listed ≤ 32
      → Walked mem (changes (revoke_held s token time listed)) (revocation.revoke_held_out mem s token time listed).reply.count

abbrev pub VisitsAnswered : Type 0
VisitsAnswered =
    (d : Numbers) (quotas mem : List ℕ) → (opening d quotas mem).answer ≡ Done → (history : List Call) (s : ℕ)
    → s < (numbers_of (after history (opening d quotas mem).memory)).spaces → VisitsOf (after history (opening d quotas mem).memory) s

-- All rebuilds of a space together move at most three entries for each entry that it ever accepted, copies included.
abbrev pub FewMoves : Type 0
FewMoves =
    (d : Numbers) (quotas mem : List ℕ) → (opening d quotas mem).answer ≡ Done → (history : List Call)
    → reopened history (opening d quotas mem).memory ≡ false → (s : ℕ) → s < d.spaces
    → all_moved history s (opening d quotas mem).memory ≤ 3 * all_accepted history s (opening d quotas mem).memory

-- Two results of a call on one memory, each as the contract fixes it, are one.
abbrev pub OneResult : Type 0
OneResult = (call : Call) (mem : List ℕ) (a b : Left Answered) → a ≡ perform call mem → b ≡ perform call mem → a ≡ b
