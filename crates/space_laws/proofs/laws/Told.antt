-- When each answer of a call of a space is given, once the memory is sound and the space is there (Refused.antt says 26 and 20): 21, 11, 7,
-- 8, 9, 12 and 0, each exactly in its stated case. `used` and `total_caps` are the table's `full`, its live entries.
use Rattle.std.proofs.Common.{List, ◌↔◌, ◌≡◌, refl, ℕ, ◌%◌, ◌^◌, ◌≤◌, ◌<◌, arith, leb, Option, None, Some}
use Rattle.answers.specs.Answer.{Answer, Done, AlreadyExists, NotFound, IdExhausted, SpaceQuota, SpaceIds, BadSpace, BadField, BadWorld}
use Rattle.base.specs.Choose.{when}
use Rattle.space.specs.Change.{insert_out}
use Rattle.space.specs.Lookup.{looked_up, got_entry}
use Rattle.space.specs.Sound.{SpaceOf}
use Rattle.space.specs.Words.{quota_of, generation_of, table_of, slot_words}
use Rattle.steps.specs.Replies.{Left, refuse, Reply}
use Rattle.steps.specs.Steps.{space_of, taken_id, take_step, new_entry}
use Rattle.base.specs.Cases.{when_from, unless_below}
use Rattle.steps.proofs.laws.Cases.{answer_of, given, not_given}
use Rattle.steps.proofs.laws.Entered.{world_by_cases}
use Rattle.steps.proofs.laws.Exhausted.{exhausted_exactly}
use Rattle.steps.proofs.laws.OnlyIds.{take_only_ids}
use Rattle.steps.proofs.laws.Ready.{is_space}
use Rattle.steps.proofs.laws.TakeStep.{taken_free}
use Rattle.steps.proofs.laws.Told.{Inner, told_0, inner, inner_0}
use Rattle.table.specs.Copy.{nth_of}
use Rattle.table.specs.Insert.{live_entries}
use Rattle.table.specs.Slots.{id_of}
use Rattle.table.specs.declared.CapabilityEntry.{CapabilityEntry}
use Rattle.token.specs.Token.{packed, made}
use Rattle.world.specs.Numbers.{numbers_of, next_of, recycled_of}
use Rattle.world.specs.Sound.{Sound}
use Rattle.world.specs.declared.Numbers.{Numbers}
use Rattle.space_calls.specs.Calls.{insert_call_out, remove_out, increment_out, clear_out, revoke_all_out, copy_out, taken_reply, alloc_out, create_taken, create_out, revoke_made, revoke_out}
use Rattle.space_reads.specs.Calls.{facts_out, lookup_out, lookup_entry_out, check_rights_out, get_entry_out, nth_entry_out}
use Rattle.space_reads.specs.Replies.{found_reply, held_reply, no_entry, entry_reply, nth_reply, EntryReply, FactsReply}
use Rattle.space_laws.proofs.laws.Finding.{HasToken, HasId, token_by_cases, id_by_cases, nth_by_cases}
use Rattle.space_laws.proofs.laws.Shapes.{On, Taking, told_on, Finds, finds_it, finds_none, FindsBelow, finds_over, below_it, below_none, Inserts, inserts, Creates, creates_none, creates_of}
use Rattle.space_laws.proofs.laws.Ways.{own_token, made_by_cases, created_by_cases}

abbrev entry_answer : EntryReply → Answer
entry_answer r = r.answer

inner_8 : Inner NotFound
inner_8 = inner NotFound refl refl

inner_21 : Inner BadField
inner_21 = inner BadField refl refl

module _ (mem : List ℕ) (s : ℕ) where
  abbrev d : Numbers
  d = numbers_of mem

  abbrev sp : List ℕ
  sp = space_of d s mem

  space_is : Sound mem → s < d.spaces → SpaceOf d.most sp
  space_is sound there = is_space d mem sound s there

  -- ---- with no refusal of their own

  -- The five that a space says of itself.
  pub facts_told_0 : ((facts_out mem s).answer ≡ Done) ↔ (Sound mem × (s < (numbers_of mem).spaces))
  unfolding facts_out
  facts_told_0 = told_0 (λ (r : FactsReply). r.answer) _ mem _ (λ a. refl) refl s

  pub check_rights_told_0 :
      (token required : ℕ) → ((check_rights_out mem s token required).reply.answer ≡ Done) ↔ (Sound mem × (s < (numbers_of mem).spaces))
  unfolding check_rights_out
  check_rights_told_0 token required = told_0 answer_of _ mem _ (λ a. refl) (always (looked_up sp token).got (looked_up sp token).visits) s
    where
      always : (got : Option CapabilityEntry) (visits : ℕ) → (held_reply required got visits).answer ≡ Done
      always (Some e) visits = refl
      always None visits = refl

  pub increment_told_0 : ((increment_out mem s).reply.answer ≡ Done) ↔ (Sound mem × (s < (numbers_of mem).spaces))
  unfolding increment_out
  increment_told_0 = told_0 answer_of _ mem _ (λ a. refl) refl s

  pub clear_told_0 : ((clear_out mem s).reply.answer ≡ Done) ↔ (Sound mem × (s < (numbers_of mem).spaces))
  unfolding clear_out
  clear_told_0 = told_0 answer_of _ mem _ (λ a. refl) refl s

  pub revoke_all_told_0 : ((revoke_all_out mem s).reply.answer ≡ Done) ↔ (Sound mem × (s < (numbers_of mem).spaces))
  unfolding revoke_all_out
  revoke_all_told_0 = told_0 answer_of _ mem _ (λ a. refl) refl s

  -- A copy is refused with 20 alone, for either number.
  pub copy_told_0 :
      (source : ℕ) → ((copy_out mem s source).reply.answer ≡ Done) ↔ On mem s (source < (numbers_of mem).spaces)
  unfolding copy_out
  copy_told_0 source =
      told_on answer_of _ mem _ s (λ a. refl) Done inner_0
      (λ sound there.
      unless_below (λ (out : Left Reply). (out.reply.answer ≡ Done) ↔ (source < d.spaces)) _ _ source d.spaces
      (λ far. not_given BadSpace Done (λ e. omega (arith, e)) (λ l. omega arith))
      (λ l. given refl l))

  -- ---- the entry of a token

  module _ (token : ℕ) where
    looked :
        (value : CapabilityEntry → ℕ) → Sound mem → s < d.spaces
        → Finds (HasToken sp token) (found_reply value (looked_up sp token).got (looked_up sp token).visits).answer
    looked value sound there =
        token_by_cases d.most sp (space_is sound there) token
        (λ g. Finds (HasToken sp token) (found_reply value g (looked_up sp token).visits).answer)
        (λ has x. finds_it has) finds_none

    whole :
        Sound mem → s < d.spaces
        → Finds (HasToken sp token) (entry_reply (looked_up sp token).got (looked_up sp token).visits).answer
    whole sound there =
        token_by_cases d.most sp (space_is sound there) token
        (λ g. Finds (HasToken sp token) (entry_reply g (looked_up sp token).visits).answer)
        (λ has x. finds_it has) finds_none

    pub lookup_told_8 : ((lookup_out mem s token).reply.answer ≡ NotFound) ↔ On mem s (¬ HasToken sp token)
    unfolding lookup_out
    lookup_told_8 =
        told_on answer_of _ mem _ s (λ a. refl) NotFound inner_8 (λ sound there. (looked (λ e. e.rights.0) sound there).absent)

    pub lookup_told_0 : ((lookup_out mem s token).reply.answer ≡ Done) ↔ On mem s (HasToken sp token)
    unfolding lookup_out
    lookup_told_0 = told_on answer_of _ mem _ s (λ a. refl) Done inner_0 (λ sound there. (looked (λ e. e.rights.0) sound there).found)

    pub lookup_entry_told_8 : ((lookup_entry_out mem s token).reply.answer ≡ NotFound) ↔ On mem s (¬ HasToken sp token)
    unfolding lookup_entry_out
    lookup_entry_told_8 =
        told_on (λ (out : Left EntryReply). out.reply.answer) _ mem _ s (λ a. refl) NotFound inner_8
        (λ sound there. (whole sound there).absent)

    pub lookup_entry_told_0 : ((lookup_entry_out mem s token).reply.answer ≡ Done) ↔ On mem s (HasToken sp token)
    unfolding lookup_entry_out
    lookup_entry_told_0 =
        told_on (λ (out : Left EntryReply). out.reply.answer) _ mem _ s (λ a. refl) Done inner_0 (λ sound there. (whole sound there).found)

    pub remove_told_8 : ((remove_out mem s token).reply.answer ≡ NotFound) ↔ On mem s (¬ HasToken sp token)
    unfolding remove_out
    remove_told_8 = told_on answer_of _ mem _ s (λ a. refl) NotFound inner_8 (λ sound there. (looked (λ e. e.object) sound there).absent)

    pub remove_told_0 : ((remove_out mem s token).reply.answer ≡ Done) ↔ On mem s (HasToken sp token)
    unfolding remove_out
    remove_told_0 = told_on answer_of _ mem _ s (λ a. refl) Done inner_0 (λ sound there. (looked (λ e. e.object) sound there).found)

  -- ---- the n-th entry

  module _ (n : ℕ) where
    nth_finds :
        Sound mem → s < d.spaces
        → Finds (n < (table_of sp).full) (nth_reply (nth_of (live_entries (slot_words sp) 0 (table_of sp).slots) n)).answer
    nth_finds sound there =
        nth_by_cases d.most sp (space_is sound there) n (λ x. Finds (n < (table_of sp).full) (nth_reply x).answer)
        (λ l x. finds_it l) (λ past. finds_none (λ l. omega arith))

    pub nth_entry_told_8 : ((nth_entry_out mem s n).answer ≡ NotFound) ↔ On mem s ((table_of sp).full ≤ n)
    unfolding nth_entry_out
    nth_entry_told_8 =
        told_on entry_answer _ mem _ s (λ a. refl) NotFound inner_8
        (λ sound there.
        let (to, from) = (nth_finds sound there).absent in
        (λ e. let past : ¬ (n < (table_of sp).full) = to e in omega arith, λ past. from (λ l. omega arith)))

    pub nth_entry_told_0 : ((nth_entry_out mem s n).answer ≡ Done) ↔ On mem s (n < (table_of sp).full)
    unfolding nth_entry_out
    nth_entry_told_0 = told_on entry_answer _ mem _ s (λ a. refl) Done inner_0 (λ sound there. (nth_finds sound there).found)

  -- ---- an insert

  module _ (token object rights : ℕ) where
    insert_inserts : Sound mem → s < d.spaces → Inserts sp (token % 2 ^ 48) (insert_out sp (new_entry token object rights)).answer
    insert_inserts sound there = inserts d.most sp (space_is sound there) (new_entry token object rights)

    pub insert_told_11 :
        ((insert_call_out mem s token object rights).reply.answer ≡ SpaceQuota)
        ↔ On mem s (quota_of sp ≤ (table_of sp).full)
    unfolding insert_call_out
    insert_told_11 =
        told_on answer_of _ mem _ s (λ a. refl) SpaceQuota (inner SpaceQuota refl refl)
        (λ sound there. (insert_inserts sound there).at_quota)

    pub insert_told_7 :
        ((insert_call_out mem s token object rights).reply.answer ≡ AlreadyExists)
        ↔ On mem s (((table_of sp).full < quota_of sp) × HasId sp (token % 2 ^ 48))
    unfolding insert_call_out
    insert_told_7 =
        told_on answer_of _ mem _ s (λ a. refl) AlreadyExists (inner AlreadyExists refl refl)
        (λ sound there. (insert_inserts sound there).there)

    pub insert_told_0 :
        ((insert_call_out mem s token object rights).reply.answer ≡ Done)
        ↔ On mem s (((table_of sp).full < quota_of sp) × (¬ HasId sp (token % 2 ^ 48)))
    unfolding insert_call_out
    insert_told_0 = told_on answer_of _ mem _ s (λ a. refl) Done inner_0 (λ sound there. (insert_inserts sound there).accepted)

  -- ---- the entry of an id, and the space's revoke

  module _ (id : ℕ) where
    got_by_id :
        Sound mem → s < d.spaces
        → FindsBelow id (HasId sp id)
        (when (leb (2 ^ 48) id) (no_entry BadField 0) (entry_reply (got_entry sp id).got (got_entry sp id).visits)).answer
    got_by_id sound there =
        when_from (λ (r : EntryReply). FindsBelow id (HasId sp id) r.answer) _ _ (2 ^ 48) id finds_over
        (λ fits.
        id_by_cases d.most sp (space_is sound there) id
        (λ g. FindsBelow id (HasId sp id) (entry_reply g (got_entry sp id).visits).answer)
        (λ has x. below_it fits has) (below_none fits))

    pub get_entry_told_21 : ((get_entry_out mem s id).answer ≡ BadField) ↔ On mem s (2 ^ 48 ≤ id)
    unfolding get_entry_out
    get_entry_told_21 = told_on entry_answer _ mem _ s (λ a. refl) BadField inner_21 (λ sound there. (got_by_id sound there).over)

    pub get_entry_told_8 : ((get_entry_out mem s id).answer ≡ NotFound) ↔ On mem s ((id < 2 ^ 48) × (¬ HasId sp id))
    unfolding get_entry_out
    get_entry_told_8 = told_on entry_answer _ mem _ s (λ a. refl) NotFound inner_8 (λ sound there. (got_by_id sound there).absent)

    pub get_entry_told_0 : ((get_entry_out mem s id).answer ≡ Done) ↔ On mem s ((id < 2 ^ 48) × HasId sp id)
    unfolding get_entry_out
    get_entry_told_0 = told_on entry_answer _ mem _ s (λ a. refl) Done inner_0 (λ sound there. (got_by_id sound there).found)

    revokes :
        Sound mem → s < d.spaces
        → FindsBelow id (HasToken sp (own_token sp id)) (revoke_made d s mem (made id (generation_of sp) 0 0)).reply.answer
    revokes sound there =
        let token : ℕ = own_token sp id in
        made_by_cases (λ m. FindsBelow id (HasToken sp token) (revoke_made d s mem m).reply.answer) sp id finds_over
        (λ fits.
        token_by_cases d.most sp (space_is sound there) token
        (λ g. FindsBelow id (HasToken sp token) (found_reply (λ e. 0) g (looked_up sp token).visits).answer)
        (λ has x. below_it fits has) (below_none fits))

    pub revoke_told_21 : ((revoke_out mem s id).reply.answer ≡ BadField) ↔ On mem s (2 ^ 48 ≤ id)
    unfolding revoke_out
    revoke_told_21 = told_on answer_of _ mem _ s (λ a. refl) BadField inner_21 (λ sound there. (revokes sound there).over)

    pub revoke_told_8 :
        ((revoke_out mem s id).reply.answer ≡ NotFound)
        ↔ On mem s ((id < 2 ^ 48) × (¬ HasToken sp (packed id (generation_of sp) 0 0)))
    unfolding revoke_out
    revoke_told_8 = told_on answer_of _ mem _ s (λ a. refl) NotFound inner_8 (λ sound there. (revokes sound there).absent)

    pub revoke_told_0 :
        ((revoke_out mem s id).reply.answer ≡ Done)
        ↔ On mem s ((id < 2 ^ 48) × HasToken sp (packed id (generation_of sp) 0 0))
    unfolding revoke_out
    revoke_told_0 = told_on answer_of _ mem _ s (λ a. refl) Done inner_0 (λ sound there. (revokes sound there).found)

  -- ---- the space's create

  module _ (rights object : ℕ) where
    creates :
        Sound mem → s < d.spaces → Creates mem sp (create_taken d s rights object (take_step d mem) (taken_id d mem)).reply.answer
    creates sound there =
        created_by_cases mem s rights object (λ out. Creates mem sp (answer_of out)) sound (creates_none mem sp)
        (λ id is.
        let same : space_of d s (take_step d mem) ≡ sp = (take_only_ids d mem sound).same_spaces s there in
        let e : CapabilityEntry = new_entry (own_token sp id) object rights in
        let own : id_of e ≡ id = omega (arith, (taken_free d mem sound id is).fits, (space_is sound there).sound.coded) in
        rw same (creates_of mem sp id is _ (rw own at (inserts d.most sp (space_is sound there) e))))

    pub create_told_12 :
        ((create_out mem s rights object).reply.answer ≡ SpaceIds) ↔ On mem s ((recycled_of mem ≤ 0) × (2 ^ 48 ≤ next_of mem))
    unfolding create_out
    create_told_12 =
        told_on answer_of _ mem _ s (λ a. refl) SpaceIds (inner SpaceIds refl refl) (λ sound there. (creates sound there).exhausted)

    pub create_told_11 :
        ((create_out mem s rights object).reply.answer ≡ SpaceQuota)
        ↔ On mem s (Taking mem (λ id. quota_of sp ≤ (table_of sp).full))
    unfolding create_out
    create_told_11 =
        told_on answer_of _ mem _ s (λ a. refl) SpaceQuota (inner SpaceQuota refl refl) (λ sound there. (creates sound there).at_quota)

    pub create_told_7 :
        ((create_out mem s rights object).reply.answer ≡ AlreadyExists)
        ↔ On mem s (Taking mem (λ id. ((table_of sp).full < quota_of sp) × HasId sp id))
    unfolding create_out
    create_told_7 =
        told_on answer_of _ mem _ s (λ a. refl) AlreadyExists (inner AlreadyExists refl refl) (λ sound there. (creates sound there).there)

    pub create_told_0 :
        ((create_out mem s rights object).reply.answer ≡ Done)
        ↔ On mem s (Taking mem (λ id. ((table_of sp).full < quota_of sp) × (¬ HasId sp id)))
    unfolding create_out
    create_told_0 = told_on answer_of _ mem _ s (λ a. refl) Done inner_0 (λ sound there. (creates sound there).accepted)

-- ---- `alloc_cap_id`, without a space

module _ (mem : List ℕ) where
  abbrev taken : Option ℕ
  taken = taken_id (numbers_of mem) mem

  exhausted_said : (t : Option ℕ) → ((taken_reply t).answer ≡ IdExhausted) ↔ (t ≡ None)
  exhausted_said (Some id) = not_given Done IdExhausted (λ e. omega (arith, e)) (λ e. let z : ◌≡◌ {A = ℕ} 0 1 = cc in omega arith)
  exhausted_said None = given refl refl

  id_said : (t : Option ℕ) → ((taken_reply t).answer ≡ Done) ↔ ((id : ℕ) × (t ≡ Some id))
  id_said (Some id) = given refl (id, refl)
  id_said None = not_given IdExhausted Done (λ e. omega (arith, e)) (λ (id, e). let z : ◌≡◌ {A = ℕ} 0 1 = cc in omega arith)

  pub alloc_told_9 : ((alloc_out mem).reply.answer ≡ IdExhausted) ↔ (Sound mem × ((recycled_of mem ≤ 0) × (2 ^ 48 ≤ next_of mem)))
  unfolding alloc_out
  alloc_told_9 =
      world_by_cases
      (λ (out : Left Reply). (answer_of out ≡ IdExhausted)
      ↔ (Sound mem × ((recycled_of mem ≤ 0) × (2 ^ 48 ≤ next_of mem)))) (refuse mem) mem _
      (λ bad. not_given BadWorld IdExhausted (λ e. omega (arith, e)) (λ (sound, none). bad sound))
      (λ sound.
      let (to, from) = exhausted_exactly (numbers_of mem) mem in
      (λ e. (sound, to ((exhausted_said taken).0 e)), λ (again, none). (exhausted_said taken).1 (from none)))

  pub alloc_told_0 : ((alloc_out mem).reply.answer ≡ Done) ↔ (Sound mem × ((id : ℕ) × (taken_id (numbers_of mem) mem ≡ Some id)))
  unfolding alloc_out
  alloc_told_0 =
      world_by_cases (λ (out : Left Reply). (answer_of out ≡ Done) ↔ (Sound mem × ((id : ℕ) × (taken ≡ Some id)))) (refuse mem) mem _
      (λ bad. not_given BadWorld Done (λ e. omega (arith, e)) (λ (sound, some). bad sound))
      (λ sound. (λ e. (sound, (id_said taken).0 e), λ (again, some). (id_said taken).1 some))
