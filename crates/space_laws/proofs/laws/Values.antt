-- A refusal's value is 0: where the answer of a call of a space is not 0, a reply has the value 0, a reply with an entry no entry, and all
-- that a space says of itself is zeros. What is added, the visits of a search that found nothing, is answered all the same.
use Rattle.std.proofs.Common.{List, ◌≢◌, ◌≡◌, refl, ℕ, Option, None, Some}
use Rattle.answers.specs.Answer.{Answer, Done, BadSpace, BadWorld}
use Rattle.space.specs.Change.{InsertOut, insert_out}
use Rattle.space.specs.Lookup.{looked_up, got_entry}
use Rattle.space.specs.Words.{table_of, slot_words}
use Rattle.space.proofs.laws.Insert.{insert_by_cases}
use Rattle.steps.specs.Enter.{on_space}
use Rattle.steps.specs.Replies.{Left, done, refuse, Reply}
use Rattle.steps.specs.Steps.{space_of, taken_id, new_entry, insert_reply}
use Rattle.base.specs.Cases.{either}
use Rattle.steps.proofs.laws.Cases.{NoValue}
use Rattle.steps.proofs.laws.Entered.{world_by_cases, space_by_cases}
use Rattle.table.specs.Copy.{nth_of}
use Rattle.table.specs.Insert.{live_entries}
use Rattle.table.specs.declared.CapabilityEntry.{CapabilityEntry}
use Rattle.world.specs.Numbers.{numbers_of}
use Rattle.world.specs.declared.Numbers.{Numbers}
use Rattle.space_calls.specs.Calls.{insert_call_out, remove_out, increment_out, clear_out, revoke_all_out, copy_out, taken_reply, alloc_out, create_out, revoke_made, revoke_out}
use Rattle.space_reads.specs.Calls.{facts_out, lookup_out, lookup_entry_out, check_rights_out, get_entry_out, nth_entry_out}
use Rattle.space_reads.specs.Replies.{found_reply, held_reply, no_entry, entry_reply, nth_reply, no_facts, EntryReply, FactsReply}
use Rattle.space_laws.proofs.laws.Ways.{own_token, made_by_cases, create_by_cases}

-- ---- a reply with an entry, and what a space says of itself

abbrev pub NoEntry : EntryReply → Type 0
NoEntry r = r.answer ≢ Done → r ≡ no_entry r.answer r.visits

abbrev pub NoFacts : FactsReply → Type 0
NoFacts r = r.answer ≢ Done → r ≡ no_facts r.answer

-- What holds of every refusal, and of the call where it is made, holds of the call.
refused_or_made :
    {A : Type 0} (P : A → Type 0) (refusing : Answer → A) (mem : List ℕ) (call : Numbers → A) (s : ℕ) → ((a : Answer) → P (refusing a))
    → P (call (numbers_of mem)) → P (on_space refusing mem s call)
refused_or_made P refusing mem call s none own =
    space_by_cases P refusing mem call (λ bad. none BadWorld) s (λ sound far. none BadSpace) (λ sound there. own)

-- ---- the shapes of a reply

done_none : (value : ℕ) → NoValue (done value)
done_none value not_0 = absurd (not_0 refl)

found_none : (value : CapabilityEntry → ℕ) (got : Option CapabilityEntry) (visits : ℕ) → NoValue (found_reply value got visits)
found_none value (Some e) visits not_0 = absurd (not_0 refl)
found_none value None visits not_0 = refl

held_none : (required : ℕ) (got : Option CapabilityEntry) (visits : ℕ) → NoValue (held_reply required got visits)
held_none required (Some e) visits not_0 = absurd (not_0 refl)
held_none required None visits not_0 = absurd (not_0 refl)

entry_none : (got : Option CapabilityEntry) (visits : ℕ) → NoEntry (entry_reply got visits)
entry_none (Some e) visits not_0 = absurd (not_0 refl)
entry_none None visits not_0 = refl

nth_none : (n : Option CapabilityEntry) → NoEntry (nth_reply n)
nth_none (Some e) not_0 = absurd (not_0 refl)
nth_none None not_0 = refl

insert_none : (value : ℕ) (sp : List ℕ) (e : CapabilityEntry) → NoValue (insert_reply value (insert_out sp e))
insert_none value sp e =
    insert_by_cases sp e (λ (o : InsertOut). NoValue (insert_reply value o)) (λ over not_0. refl) (λ i under there not_0. refl)
    (λ a not_0. absurd (not_0 refl))

taken_none : (t : Option ℕ) → NoValue (taken_reply t)
taken_none (Some id) not_0 = absurd (not_0 refl)
taken_none None not_0 = refl

-- ---- call by call

abbrev Valueless : Left Reply → Type 0
Valueless out = NoValue out.reply

module _ (mem : List ℕ) (s : ℕ) where
  abbrev d : Numbers
  d = numbers_of mem

  abbrev sp : List ℕ
  sp = space_of d s mem

  -- The five that a space says of itself are parts of this.
  pub facts_value : NoFacts (facts_out mem s)
  unfolding facts_out
  facts_value = refused_or_made NoFacts _ mem _ s (λ a not_0. refl) (λ not_0. absurd (not_0 refl))

  pub lookup_value : (token : ℕ) → NoValue (lookup_out mem s token).reply
  unfolding lookup_out
  lookup_value token =
      refused_or_made Valueless _ mem _ s (λ a not_0. refl)
      (found_none (λ e. e.rights.0) (looked_up sp token).got (looked_up sp token).visits)

  pub lookup_entry_value : (token : ℕ) → NoEntry (lookup_entry_out mem s token).reply
  unfolding lookup_entry_out
  lookup_entry_value token =
      refused_or_made (λ (out : Left EntryReply). NoEntry out.reply) _ mem _ s (λ a not_0. refl)
      (entry_none (looked_up sp token).got (looked_up sp token).visits)

  pub check_rights_value : (token required : ℕ) → NoValue (check_rights_out mem s token required).reply
  unfolding check_rights_out
  check_rights_value token required =
      refused_or_made Valueless _ mem _ s (λ a not_0. refl) (held_none required (looked_up sp token).got (looked_up sp token).visits)

  pub get_entry_value : (id : ℕ) → NoEntry (get_entry_out mem s id)
  unfolding get_entry_out
  get_entry_value id =
      refused_or_made NoEntry _ mem _ s (λ a not_0. refl)
      (either NoEntry _ _ _ (λ not_0. refl) (entry_none (got_entry sp id).got (got_entry sp id).visits))

  pub nth_entry_value : (n : ℕ) → NoEntry (nth_entry_out mem s n)
  unfolding nth_entry_out
  nth_entry_value n =
      refused_or_made NoEntry _ mem _ s (λ a not_0. refl) (nth_none (nth_of (live_entries (slot_words sp) 0 (table_of sp).slots) n))

  pub insert_value : (token object rights : ℕ) → NoValue (insert_call_out mem s token object rights).reply
  unfolding insert_call_out
  insert_value token object rights =
      refused_or_made Valueless _ mem _ s (λ a not_0. refl) (insert_none 0 sp (new_entry token object rights))

  pub remove_value : (token : ℕ) → NoValue (remove_out mem s token).reply
  unfolding remove_out
  remove_value token =
      refused_or_made Valueless _ mem _ s (λ a not_0. refl)
      (found_none (λ e. e.object) (looked_up sp token).got (looked_up sp token).visits)

  pub increment_value : NoValue (increment_out mem s).reply
  unfolding increment_out
  increment_value = refused_or_made Valueless _ mem _ s (λ a not_0. refl) (done_none 0)

  pub clear_value : NoValue (clear_out mem s).reply
  unfolding clear_out
  clear_value = refused_or_made Valueless _ mem _ s (λ a not_0. refl) (done_none 0)

  pub revoke_all_value : NoValue (revoke_all_out mem s).reply
  unfolding revoke_all_out
  revoke_all_value = refused_or_made Valueless _ mem _ s (λ a not_0. refl) (done_none 0)

  pub copy_value : (source : ℕ) → NoValue (copy_out mem s source).reply
  unfolding copy_out
  copy_value source =
      refused_or_made Valueless _ mem _ s (λ a not_0. refl)
      (either Valueless _ _ _ (λ not_0. refl) (λ not_0. absurd (not_0 refl)))

  pub create_value : (rights object : ℕ) → NoValue (create_out mem s rights object).reply
  create_value rights object =
      create_by_cases mem s rights object Valueless (λ bad not_0. refl) (λ sound far not_0. refl) (λ sound there none not_0. refl)
      (λ sound there id is. insert_none id _ _)

  pub revoke_value : (id : ℕ) → NoValue (revoke_out mem s id).reply
  unfolding revoke_out
  revoke_value id =
      let l = looked_up sp (own_token sp id) in
      refused_or_made Valueless _ mem _ s (λ a not_0. refl)
      (made_by_cases (λ m. Valueless (revoke_made d s mem m)) sp id (λ over not_0. refl)
      (λ fits. found_none (λ e. 0) l.got l.visits))

pub alloc_value : (mem : List ℕ) → NoValue (alloc_out mem).reply
unfolding alloc_out
alloc_value mem = world_by_cases Valueless (refuse mem) mem _ (λ bad not_0. refl) (λ sound. taken_none (taken_id (numbers_of mem) mem))
