-- 26 is answered exactly on memory that is not sound, 20 exactly on a sound one for a space number of S or more.
use Rattle.std.proofs.Common.{List, ◌↔◌, ◌≢◌, ◌⊎◌, inl, inr, ⊎_elim, ◌≡◌, refl, ℕ, ◌≤◌, arith, Option, None, Some}
use Rattle.answers.specs.Number.{number_of}
use Rattle.answers.specs.Answer.{Answer, Done, AlreadyExists, NotFound, IdExhausted, SpaceQuota, SpaceIds, BadSpace, BadField, BadWorld}
use Rattle.space.specs.Change.{InsertOut, insert_out}
use Rattle.space.specs.Lookup.{looked_up, got_entry}
use Rattle.space.specs.Words.{table_of, slot_words}
use Rattle.space.proofs.laws.Insert.{insert_by_cases}
use Rattle.steps.specs.Steps.{space_of, taken_id, new_entry}
use Rattle.table.specs.Copy.{nth_of}
use Rattle.table.specs.Insert.{live_entries}
use Rattle.table.specs.declared.CapabilityEntry.{CapabilityEntry}
use Rattle.world.specs.Numbers.{numbers_of}
use Rattle.world.specs.Sound.{Sound}
use Rattle.world.specs.declared.Numbers.{Numbers}
use Rattle.space_calls.specs.Calls.{insert_call_out, remove_out, increment_out, clear_out, revoke_all_out, copy_out, taken_reply, alloc_out, create_out, revoke_made, revoke_out}
use Rattle.space_reads.specs.Calls.{facts_out, lookup_out, lookup_entry_out, check_rights_out, get_entry_out, nth_entry_out}
use Rattle.steps.specs.Replies.{Left, refuse, Reply}
use Rattle.space_reads.specs.Replies.{found_reply, held_reply, entry_reply, nth_reply, EntryReply, FactsReply}
use Rattle.base.specs.Cases.{either, unless_below}
use Rattle.steps.proofs.laws.Cases.{answer_of, given, not_given}
use Rattle.steps.proofs.laws.Entered.{space_by_cases}
use Rattle.steps.proofs.laws.Told.{Told, Inner, told_26, told_20, told_own, told, world_told, inner, inner_0}
use Rattle.space_laws.proofs.laws.Ways.{own_token, made_by_cases, create_by_cases}

-- ---- the calls' own answers

inner_found : (value : CapabilityEntry → ℕ) (got : Option CapabilityEntry) (visits : ℕ) → Inner (found_reply value got visits).answer
inner_found value (Some e) visits = inner_0
inner_found value None visits = inner NotFound refl refl

inner_held : (required : ℕ) (got : Option CapabilityEntry) (visits : ℕ) → Inner (held_reply required got visits).answer
inner_held required (Some e) visits = inner_0
inner_held required None visits = inner_0

inner_entry : (got : Option CapabilityEntry) (visits : ℕ) → Inner (entry_reply got visits).answer
inner_entry (Some e) visits = inner_0
inner_entry None visits = inner NotFound refl refl

inner_nth : (n : Option CapabilityEntry) → Inner (nth_reply n).answer
inner_nth (Some e) = inner_0
inner_nth None = inner NotFound refl refl

inner_insert : (sp : List ℕ) (e : CapabilityEntry) → Inner (insert_out sp e).answer
inner_insert sp e =
    insert_by_cases sp e (λ (o : InsertOut). Inner o.answer)
    (λ over. inner SpaceQuota refl refl) (λ i under there. inner AlreadyExists refl refl) (λ a. inner_0)

inner_taken : (t : Option ℕ) → Inner (taken_reply t).answer
inner_taken (Some id) = inner_0
inner_taken None = inner IdExhausted refl refl

-- ---- call by call

module _ (mem : List ℕ) (s : ℕ) where
  abbrev d : Numbers
  d = numbers_of mem

  abbrev sp : List ℕ
  sp = space_of d s mem

  -- The answer of the five calls that a space says of itself.
  pub facts_entered : Told mem s (facts_out mem s).answer
  unfolding facts_out
  facts_entered = told (λ (r : FactsReply). r.answer) _ mem _ (λ a. refl) inner_0 s

  pub lookup_entered : (token : ℕ) → Told mem s (lookup_out mem s token).reply.answer
  unfolding lookup_out
  lookup_entered token =
      told answer_of _ mem _ (λ a. refl) (inner_found (λ e. e.rights.0) (looked_up sp token).got (looked_up sp token).visits) s

  pub lookup_entry_entered : (token : ℕ) → Told mem s (lookup_entry_out mem s token).reply.answer
  unfolding lookup_entry_out
  lookup_entry_entered token =
      told (λ (out : Left EntryReply). out.reply.answer) _ mem _ (λ a. refl)
      (inner_entry (looked_up sp token).got (looked_up sp token).visits) s

  pub check_rights_entered : (token required : ℕ) → Told mem s (check_rights_out mem s token required).reply.answer
  unfolding check_rights_out
  check_rights_entered token required =
      told answer_of _ mem _ (λ a. refl) (inner_held required (looked_up sp token).got (looked_up sp token).visits) s

  pub get_entry_entered : (id : ℕ) → Told mem s (get_entry_out mem s id).answer
  unfolding get_entry_out
  get_entry_entered id =
      let l = got_entry sp id in
      told (λ (r : EntryReply). r.answer) _ mem _ (λ a. refl)
      (either (λ (r : EntryReply). Inner r.answer) _ _ _ (inner BadField refl refl) (inner_entry l.got l.visits))
      s

  pub nth_entry_entered : (n : ℕ) → Told mem s (nth_entry_out mem s n).answer
  unfolding nth_entry_out
  nth_entry_entered n =
      told (λ (r : EntryReply). r.answer) _ mem _ (λ a. refl)
      (inner_nth (nth_of (live_entries (slot_words sp) 0 (table_of sp).slots) n)) s

  pub insert_entered : (token object rights : ℕ) → Told mem s (insert_call_out mem s token object rights).reply.answer
  unfolding insert_call_out
  insert_entered token object rights = told answer_of _ mem _ (λ a. refl) (inner_insert sp (new_entry token object rights)) s

  pub remove_entered : (token : ℕ) → Told mem s (remove_out mem s token).reply.answer
  unfolding remove_out
  remove_entered token =
      told answer_of _ mem _ (λ a. refl) (inner_found (λ e. e.object) (looked_up sp token).got (looked_up sp token).visits) s

  pub increment_entered : Told mem s (increment_out mem s).reply.answer
  unfolding increment_out
  increment_entered = told answer_of _ mem _ (λ a. refl) inner_0 s

  pub clear_entered : Told mem s (clear_out mem s).reply.answer
  unfolding clear_out
  clear_entered = told answer_of _ mem _ (λ a. refl) inner_0 s

  pub revoke_all_entered : Told mem s (revoke_all_out mem s).reply.answer
  unfolding revoke_all_out
  revoke_all_entered = told answer_of _ mem _ (λ a. refl) inner_0 s

  pub create_entered : (rights object : ℕ) → Told mem s (create_out mem s rights object).reply.answer
  create_entered rights object =
      create_by_cases mem s rights object (λ out. Told mem s (answer_of out)) (told_26 mem s) (told_20 mem s)
      (λ sound there none. told_own mem s sound there SpaceIds (inner SpaceIds refl refl))
      (λ sound there id is. told_own mem s sound there _ (inner_insert _ _))

  pub revoke_entered : (id : ℕ) → Told mem s (revoke_out mem s id).reply.answer
  unfolding revoke_out
  revoke_entered id =
      let l = looked_up sp (own_token sp id) in
      told answer_of _ mem _ (λ a. refl)
      (made_by_cases (λ m. Inner (revoke_made d s mem m).reply.answer) sp id (λ over. inner BadField refl refl)
      (λ fits. inner_found (λ e. 0) l.got l.visits))
      s

-- A call without a space is never answered 20.
pub alloc_entered : (mem : List ℕ) → ((alloc_out mem).reply.answer ≡ BadWorld) ↔ (¬ Sound mem)
unfolding alloc_out
alloc_entered mem = world_told answer_of _ mem _ (λ a. refl) (inner_taken (taken_id (numbers_of mem) mem))

-- A copy names two spaces: 20 where either is not there.
pub copy_entered :
    (mem : List ℕ) (target source : ℕ)
    → (((copy_out mem target source).reply.answer ≡ BadWorld) ↔ (¬ Sound mem))
    × (((copy_out mem target source).reply.answer ≡ BadSpace)
    ↔ (Sound mem × (((numbers_of mem).spaces ≤ target) ⊎ ((numbers_of mem).spaces ≤ source))))
unfolding copy_out
copy_entered mem target source =
    space_by_cases Both (refuse mem) mem _
    (λ bad. (given refl bad, not_given BadWorld BadSpace (λ e. omega (arith, e)) (λ (sound, far). bad sound)))
    target
    (λ sound far. (not_26 BadSpace sound (λ e. omega arith), given refl (sound, inl far)))
    (λ sound valid.
    unless_below Both _ _ source d.spaces
    (λ far. (not_26 BadSpace sound (λ e. omega arith), given refl (sound, inr far)))
    (λ there. (
      not_26 Done sound (λ e. omega arith),
      not_given Done BadSpace (λ e. omega (arith, e)) (λ (sound, far). ⊎_elim (λ f. omega arith) (λ f. omega arith) far),
    )))
  where
    d : Numbers
    d = numbers_of mem

    Both : Left Reply → Type 0
    Both out =
        ((answer_of out ≡ BadWorld) ↔ (¬ Sound mem))
        × ((answer_of out ≡ BadSpace) ↔ (Sound mem × ((d.spaces ≤ target) ⊎ (d.spaces ≤ source))))

    not_26 : (a : Answer) → Sound mem → number_of a ≢ 26 → (a ≡ BadWorld) ↔ (¬ Sound mem)
    not_26 a sound other = not_given a BadWorld other (λ bad. bad sound)
