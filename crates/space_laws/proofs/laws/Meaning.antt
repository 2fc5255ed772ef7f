-- The calls on a whole space in a user's words: it says its facts, a lookup only counts, a clear leaves nothing, a copy answers as its
-- source did.
use Rattle.std.proofs.Common.{List, ◌≡◌, sym, ap, subst, ◌∙◌, ℕ, ◌+◌, ◌%◌, ◌^◌, ◌<◌, arith, None, Some}
use Rattle.std.proofs.Math.Logic.Iff
use Rattle.answers.specs.Number.{number_of}
use Rattle.answers.specs.Answer.{Done}
use Rattle.space.specs.Change.{cleared, next_generation}
use Rattle.space.specs.Lookup.{up, exactly, looked_up, counted}
use Rattle.space.specs.Sound.{SpaceOf}
use Rattle.space.specs.Words.{quota_of, generation_of, hits_of, misses_of, table_of, slot_words}
use Rattle.space.proofs.laws.Copied.{freshly, copy_answers}
use Rattle.space.proofs.laws.Counted.{hit_counts, miss_counts}
use Rattle.space.proofs.laws.Held.{has_as, nothing_exactly, answered_as_before, clear_holds_nothing, cleared_is_empty}
use Rattle.space.proofs.laws.Kept.{fits, clear_keeps, next_keeps}
use Rattle.space.proofs.laws.View.{View, view, with_generation, with_hits, with_misses, with_slots, used_at, view_next, view_copied}
use Rattle.steps.specs.Steps.{space_of, facts_of, copy_step}
use Rattle.steps.proofs.laws.Kept.{Kept, kept_sound, kept_trans}
use Rattle.steps.proofs.laws.Ready.{is_space}
use Rattle.steps.proofs.laws.SpaceSteps.{clear_step_kept, next_step_kept}
use Rattle.world.specs.Numbers.{numbers_of}
use Rattle.world.specs.Sound.{SoundAt, Sound}
use Rattle.world.specs.declared.Numbers.{Numbers}
use Rattle.space_calls.specs.Calls.{clear_out, revoke_all_out, copy_out}
use Rattle.space_reads.specs.Calls.{facts_out, fact_out, used_out, capacity_out, lookup_out}
use Rattle.steps.specs.Replies.{Left, replied, done, Reply}
use Rattle.steps.specs.declared.Facts.{Facts}
use Rattle.space_reads.specs.Replies.{FactsReply}
use Rattle.base.specs.Cases.{unless_below}
use Rattle.steps.proofs.laws.Entered.{done_made, space_called}
use Rattle.steps.proofs.laws.OnlySpace.{lookup_in_space, next_in_space, clear_in_space, copy_in_space}

-- ---- a lookup

module _ (mem : List ℕ) (sound : Sound mem) (s : ℕ) (valid : s < (numbers_of mem).spaces) (token : ℕ) where
  abbrev d : Numbers
  d = numbers_of mem

  abbrev sp : List ℕ
  sp = space_of d s mem

  counts : view (space_of d s (lookup_out mem s token).memory) ≡ view (counted sp token)
  unfolding lookup_out
  counts =
      ap (λ (out : Left Reply). view (space_of d s out.memory)) (space_called _ mem _ sound s valid)
      ∙ ap view (lookup_in_space d mem sound s valid token).here

  -- Found in slot i, it counts a hit and a use of that slot's entry.
  pub lookup_counts_a_hit :
      (i : ℕ) → exactly (space_of (numbers_of mem) s mem) token ≡ Some i
      → view (space_of (numbers_of mem) s (lookup_out mem s token).memory)
      ≡ with_slots (table_of sp) (used_at (slot_words sp) i) (with_hits (up (hits_of sp)) (view sp))
  lookup_counts_a_hit i at = counts ∙ hit_counts d.most sp (is_space d mem sound s valid) token i at

  -- Not found, it counts a miss.
  pub lookup_counts_a_miss :
      exactly (space_of (numbers_of mem) s mem) token ≡ None
      → view (space_of (numbers_of mem) s (lookup_out mem s token).memory) ≡ with_misses (up (misses_of sp)) (view sp)
  lookup_counts_a_miss absent = counts ∙ miss_counts d.most sp (is_space d mem sound s valid) token absent

-- ---- what a space says of itself

-- A space that is there says its facts.
pub says_fact :
    (fact : Facts → ℕ) (mem : List ℕ) (s : ℕ) → Sound mem → s < (numbers_of mem).spaces
    → fact_out fact mem s ≡ done (fact (facts_of (space_of (numbers_of mem) s mem)))
unfolding facts_out
says_fact fact mem s sound there = ap (λ (f : FactsReply). replied f.answer (fact f.facts) 0) (space_called _ mem _ sound s there)

-- ---- a clear

-- The space is there, has 0 slots, and no token is found in it.
pub record Empty (mem : List ℕ) (s : ℕ) : Type 0 where
  pub no_slots : capacity_out mem s ≡ done 0
  pub none_used : used_out mem s ≡ done 0
  pub none_found : (token : ℕ) → (looked_up (space_of (numbers_of mem) s mem) token).got ≡ None

-- By the space's words.
module _ (mem after : List ℕ) (s : ℕ) (sp : List ℕ) (kept : Kept (numbers_of mem) mem after) (valid : s < (numbers_of mem).spaces) where
  abbrev before : Numbers
  before = numbers_of mem

  emptied :
      space_of before s after ≡ sp → (table_of sp).slots ≡ 0 → (table_of sp).full ≡ 0 → ((token : ℕ) → (looked_up sp token).got ≡ None)
      → Empty after s
  unfolding facts_of
  emptied is slots full none =
      let now : space_of (numbers_of after) s after ≡ sp = ap (λ (d : Numbers). space_of d s after) kept.numbers ∙ is in
      let sound = kept_sound mem after kept in
      let there = subst (λ (d : Numbers). s < d.spaces) (sym kept.numbers) valid in
      record {
        no_slots = says_fact (λ f. f.slots) after s sound there ∙ ap done (ap (λ sp. (table_of sp).slots) now ∙ slots);
        none_used = says_fact (λ f. f.used) after s sound there ∙ ap done (ap (λ sp. (table_of sp).full) now ∙ full);
        none_found = λ token. ap (λ sp. (looked_up sp token).got) now ∙ none token;
      }

module _ (most : ℕ) (sp : List ℕ) (is : SpaceOf most sp) where
  none_held : (token : ℕ) → (looked_up (cleared sp) token).got ≡ None
  none_held token = (nothing_exactly most _ (clear_keeps most sp is) token).1 (λ x h same. clear_holds_nothing most sp is x h)

  -- The generation is no part of the table.
  next_empty : view (next_generation (cleared sp)) ≡ with_generation ((generation_of (cleared sp) + 1) % 2 ^ 8) (view (cleared sp))
  next_empty = view_next (cleared sp) (fits most _ (clear_keeps most sp is))

  none_next : (token : ℕ) → (looked_up (next_generation (cleared sp)) token).got ≡ None
  none_next token =
      answered_as_before most (cleared sp) _ token (clear_keeps most sp is) (next_keeps most _ (clear_keeps most sp is))
      (λ x same. has_as _ _ x next_empty Iff.rfl)
      ∙ none_held token

pub clear_leaves_nothing : (mem : List ℕ) (s : ℕ) → (clear_out mem s).reply.answer ≡ Done → Empty (clear_out mem s).memory s
unfolding clear_out
clear_leaves_nothing mem s =
    done_made mem s _ (λ out. Empty out.memory s)
    (λ sound valid answered.
    let d : Numbers = numbers_of mem in
    let is = is_space d mem sound s valid in
    let (slots, full) = cleared_is_empty d.most (space_of d s mem) is in
    emptied mem _ s _ (clear_step_kept d mem sound s valid) valid (clear_in_space d mem sound s valid).here slots full
    (none_held d.most (space_of d s mem) is))

pub revoke_all_leaves_nothing : (mem : List ℕ) (s : ℕ) → (revoke_all_out mem s).reply.answer ≡ Done → Empty (revoke_all_out mem s).memory s
unfolding revoke_all_out
revoke_all_leaves_nothing mem s =
    done_made mem s _ (λ out. Empty out.memory s)
    (λ sound valid answered.
    let d : Numbers = numbers_of mem in
    let sp : List ℕ = space_of d s mem in
    let is = is_space d mem sound s valid in
    let first = clear_step_kept d mem sound s valid in
    let (slots, full) = cleared_is_empty d.most sp is in
    let next = next_empty d.most sp is in
    emptied mem _ s (next_generation (cleared sp)) (kept_trans d mem _ _ first (next_step_kept d _ first.sound s valid)) valid
    ((next_in_space d _ first.sound s valid).here ∙ ap next_generation (clear_in_space d mem sound s valid).here)
    (ap (λ (v : View). v.counts.slots) next ∙ slots) (ap (λ (v : View). v.counts.full) next ∙ full)
    (none_next d.most sp is))

-- ---- a copy

-- The target answers each token as the source did, uses zeroed, has its generation, and keeps its own quota.
pub record CopyOf (d : Numbers) (target source : ℕ) (mem after : List ℕ) : Type 0 where
  pub answers : (token : ℕ) → (looked_up (space_of d target after) token).got ≡ freshly (looked_up (space_of d source mem) token).got
  pub generation : generation_of (space_of d target after) ≡ generation_of (space_of d source mem)
  pub quota : quota_of (space_of d target after) ≡ quota_of (space_of d target mem)

copied_as :
    (d : Numbers) (mem : List ℕ) (target source : ℕ) → SoundAt d mem → target < d.spaces → source < d.spaces
    → CopyOf d target source mem (copy_step d target source mem)
copied_as d mem target source sound to from =
    let src : List ℕ = space_of d source mem in
    let tgt : List ℕ = space_of d target mem in
    let s = is_space d mem sound source from in
    let t = is_space d mem sound target to in
    let here = (copy_in_space d mem sound target to source from).here in
    let same = ap view here ∙ view_copied src tgt (fits d.most tgt t) in
    record {
      answers = λ token. ap (λ sp. (looked_up sp token).got) here ∙ copy_answers d.most src tgt s t token;
      generation = ap (λ (v : View). v.generation) same;
      quota = ap (λ (v : View). v.quota) same;
    }

pub copy_is_a_copy :
    (mem : List ℕ) (target source : ℕ) → (copy_out mem target source).reply.answer ≡ Done
    → CopyOf (numbers_of mem) target source mem (copy_out mem target source).memory
unfolding copy_out
copy_is_a_copy mem target source =
    let d : Numbers = numbers_of mem in
    done_made mem target _ (λ out. CopyOf d target source mem out.memory)
    (λ sound valid.
    unless_below (λ (out : Left Reply). out.reply.answer ≡ Done → CopyOf d target source mem out.memory) _ _ source d.spaces
    (λ far e. absurd (omega (arith, ap number_of e)))
    (λ there e. copied_as d mem target source sound valid there))
