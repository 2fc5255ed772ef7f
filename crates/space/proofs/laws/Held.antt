-- What a space holds: a token is answered exactly with the entry that the space holds under it. Each call is then what it does to the
-- entries held: an insert adds one, a removal takes the token's, a clear takes all, a lookup counts a use, a copy takes the source's.
use Rattle.std.proofs.Common.{◌≡◌, ℕ, ◌+◌, ◌*◌, ◌%◌, ◌^◌, ◌<◌, ◌≢◌, ◌⊎◌, ◌↔◌, List, get_or, sym, refl, ap, ◌∙◌, subst, inr, arith, get_or-drop, eq-eqb, Option, None, Some}
use Rattle.table.specs.Slots.{id_of, entry_at}
use Rattle.table.specs.Walk.{got_at}
use Rattle.table.specs.declared.CapabilityEntry.{CapabilityEntry}
use Rattle.table.proofs.laws.Contents.{HoldsAs, Holds, held_id}
use Rattle.table.proofs.laws.Exact.{search_at, live_is_found, absent_exactly_when_none}
use Rattle.table.proofs.laws.Insert.{insert_holds_old_and_new}
use Rattle.table.proofs.laws.Remove.{remove_holds_all_others}
use Rattle.answers.specs.Answer.{Done}
use Rattle.space.specs.Words.{table_of, slot_words}
use Rattle.space.specs.Sound.{SpaceOf}
use Rattle.space.specs.Lookup.{search_for, exactly, looked_up}
use Rattle.space.specs.Change.{insert_out, removed_found, removed_token, cleared}
use Rattle.space.proofs.laws.Insert.{done_accepts}
use Rattle.space.proofs.laws.Kept.{fits, long, held, insert_keeps, remove_keeps}
use Rattle.space.proofs.laws.Lookup.{exactly_at}
use Rattle.space.proofs.laws.View.{View, view, view_inserted, view_removed, view_cleared}

abbrev pub token_of : CapabilityEntry → ℕ
token_of e = e.capability.0

-- The space holds the entry.
abbrev pub Has : View → CapabilityEntry → Type 0
Has v x = Holds v.words v.counts.slots x

-- By an equal view.
pub has_as : {Q : Type 0} (w v : View) (x : CapabilityEntry) → w ≡ v → Has v x ↔ Q → Has w x ↔ Q
has_as {Q} w v x e h = subst (λ (v : View). Has v x ↔ Q) (sym e) h

-- The token word of slot i, from the space's start.
pub slot_token : (sp : List ℕ) (i : ℕ) → token_of (entry_at (slot_words sp) i) ≡ get_or sp (8 + 4 * i) 0
unfolding entry_at
slot_token sp i = get_or-drop 8 sp (4 * i) 0

module _ (most : ℕ) (sp : List ℕ) (s : SpaceOf most sp) (token : ℕ) where
  -- The slot of an entry that the space holds is where exactly its token is found.
  pub held_exactly : (x : CapabilityEntry) (h : Has (view sp) x) → token_of x ≡ token → exactly sp token ≡ Some h.slot
  unfolding exactly
  held_exactly x h same =
      let id : id_of x ≡ token % 2 ^ 48 = ap (λ w. w % 2 ^ 48) same in
      let found : (search_for sp token).found ≡ Some h.slot =
      rw (held_id (slot_words sp) (table_of sp).slots x h ∙ id) at
      (live_is_found most (slot_words sp) (table_of sp) s.sound.table h.slot h.below h.live) in
      let word : get_or sp (8 + 4 * h.slot) 0 ≡ token = sym (slot_token sp h.slot) ∙ ap token_of h.same ∙ same in
      rw (found, eq-eqb _ _ word)

  pub got_exactly : (x : CapabilityEntry) → ((looked_up sp token).got ≡ Some x) ↔ (Has (view sp) x × (token_of x ≡ token))
  unfolding looked_up
  got_exactly x = (to (exactly sp token) refl, λ (h, same). ap (got_at (slot_words sp)) (held_exactly x h same) ∙ ap Some h.same)
    where
      to : (f : Option ℕ) → exactly sp token ≡ f → got_at (slot_words sp) f ≡ Some x → Has (view sp) x × (token_of x ≡ token)
      to (Some i) e got =
          let (found, word) = exactly_at sp token i e in
          let (below, live, id) = search_at (slot_words sp) (table_of sp).slots (token % 2 ^ 48) i found in
          let here : entry_at (slot_words sp) i ≡ x = cc in (
            record { slot = i; below = below; live = live; same = here },
            sym (ap token_of here) ∙ slot_token sp i ∙ word,
          )
      to None e got = let z : ◌≡◌ {A = ℕ} 0 1 = cc in absurd (omega arith)

  pub nothing_exactly : ((looked_up sp token).got ≡ None) ↔ ((x : CapabilityEntry) → Has (view sp) x → token_of x ≢ token)
  nothing_exactly = (
    λ none x h same.
        let found = (got_exactly x).1 (h, same) in
        let z : ◌≡◌ {A = ℕ} 0 1 = cc in
        omega arith,
    λ none. from none (looked_up sp token).got refl,
  )
    where
      from :
          ((x : CapabilityEntry) → Has (view sp) x → token_of x ≢ token) → (g : Option CapabilityEntry) → (looked_up sp token).got ≡ g
          → (looked_up sp token).got ≡ None
      from none (Some x) e = let (h, same) = (got_exactly x).0 e in absurd (none x h same)
      from none None e = e

-- What was answered, with f of its entry.
abbrev pub got_as : (CapabilityEntry → CapabilityEntry) → Option CapabilityEntry → Option CapabilityEntry
got_as f (Some x) = Some (f x)
got_as f None = None

module _ (most : ℕ) (sp after : List ℕ) (token : ℕ) (s : SpaceOf most sp) (t : SpaceOf most after) where
  -- Where f of the entries that were held under a token are held under it, f of what was answered is answered.
  pub answered_as :
      (f : CapabilityEntry → CapabilityEntry) → ((x : CapabilityEntry) → token_of (f x) ≡ token_of x)
      → ((x : CapabilityEntry) → token_of x ≡ token → Has (view after) x ↔ HoldsAs f (slot_words sp) (table_of sp).slots x)
      → (looked_up after token).got ≡ got_as f (looked_up sp token).got
  answered_as f kept same = go (looked_up sp token).got refl
    where
      go : (g : Option CapabilityEntry) → (looked_up sp token).got ≡ g → (looked_up after token).got ≡ got_as f g
      go (Some x) e =
          let (h, is) = (got_exactly most sp s token x).0 e in
          let word : token_of (f x) ≡ token = kept x ∙ is in
          (got_exactly most after t token (f x)).1
          ((same (f x) word).1 (record { slot = h.slot; below = h.below; live = h.live; same = ap f h.same }), word)
      go None e =
          (nothing_exactly most after t token).1
          (λ x h is.
          let from = (same x is).0 h in
          (nothing_exactly most sp s token).0 e _ (record { slot = from.slot; below = from.below; live = from.live; same = refl })
          (sym (kept _) ∙ ap token_of from.same ∙ is))

  -- Where the same entries are, what was answered is.
  pub answered_as_before :
      ((x : CapabilityEntry) → token_of x ≡ token → Has (view after) x ↔ Has (view sp) x)
      → (looked_up after token).got ≡ (looked_up sp token).got
  answered_as_before same = answered_as (λ x. x) (λ x. refl) same ∙ go (looked_up sp token).got
    where
      go : (g : Option CapabilityEntry) → got_as (λ x. x) g ≡ g
      go (Some x) = refl
      go None = refl

module _ (most : ℕ) (sp : List ℕ) (s : SpaceOf most sp) where
  -- ---- insert

  module _ (e : CapabilityEntry) (rights : e.rights.0 < 2 ^ 32) (done : (insert_out sp e).answer ≡ Done) where
    -- It holds what it held, and the new entry.
    pub insert_holds : (x : CapabilityEntry) → Has (view (insert_out sp e).words) x ↔ (Has (view sp) x ⊎ (x ≡ e))
    insert_holds x =
        let (a, is) = done_accepts sp e done in
        let more : (table_of sp).full < most = omega (arith, s.sound.quota) in
        let lacks = (absent_exactly_when_none most (slot_words sp) (table_of sp) s.sound.table (id_of e)).0 a.absent in
        rw is
        (has_as _ _ x (view_inserted sp (fits most sp s) e)
        (insert_holds_old_and_new most (slot_words sp) (table_of sp) e s.sound.table more lacks rights (long most sp s) x))

    pub inserted_is_found : (looked_up (insert_out sp e).words (token_of e)).got ≡ Some e
    inserted_is_found = (got_exactly most _ (insert_keeps most sp s e rights) (token_of e) e).1 ((insert_holds e).1 (inr refl), refl)

  -- ---- remove

  -- It holds what it held but the token's entry, if it had one.
  pub remove_holds : (token : ℕ) (x : CapabilityEntry) → Has (view (removed_token sp token)) x ↔ (Has (view sp) x × (token_of x ≢ token))
  unfolding removed_token
  remove_holds token x = go (exactly sp token) refl
    where
      go : (f : Option ℕ) → exactly sp token ≡ f → Has (view (removed_found sp f)) x ↔ (Has (view sp) x × (token_of x ≢ token))
      go (Some i) e =
          let (found, word) = exactly_at sp token i e in
          let (below, live, id) = search_at (slot_words sp) (table_of sp).slots (token % 2 ^ 48) i found in
          let same : token_of (entry_at (slot_words sp) i) ≡ token = slot_token sp i ∙ word in
          let All-others = remove_holds_all_others most (slot_words sp) (table_of sp) i s.sound.table below live (held most sp s) x in
          has_as _ _ x (view_removed sp (fits most sp s) i) (
            λ h.
                let (old, other) = All-others.0 h in
                (old, λ is. other (sym old.same ∙ ap (entry_at (slot_words sp)) (cc (e, held_exactly most sp s token x old is)))),
            λ (old, other). All-others.1 (old, λ is. other (ap token_of is ∙ same)),
          )
      go None e = (
        λ h. (h, λ is. let here = held_exactly most sp s token x h is in let z : ◌≡◌ {A = ℕ} 0 1 = cc in omega arith),
        λ h. h.0,
      )

  pub removed_is_absent : (token : ℕ) → (looked_up (removed_token sp token) token).got ≡ None
  removed_is_absent token = (nothing_exactly most _ (remove_keeps most sp s token) token).1 (λ x h is. ((remove_holds token x).0 h).1 is)

  pub others_as_before_remove : (token other : ℕ) → other ≢ token
      → (looked_up (removed_token sp token) other).got ≡ (looked_up sp other).got
  others_as_before_remove token other d =
      answered_as_before most sp _ other s (remove_keeps most sp s token)
      (λ x is. (λ h. ((remove_holds token x).0 h).0, λ h. (remove_holds token x).1 (h, λ e. d (sym is ∙ e))))

  -- ---- clear

  pub clear_holds_nothing : (x : CapabilityEntry) → Has (view (cleared sp)) x → ⊥
  clear_holds_nothing x h =
      let none_held = subst (λ (v : View). Has v x) (view_cleared sp (fits most sp s)) h in
      omega (arith, none_held.below)

  pub cleared_is_empty : ((table_of (cleared sp)).slots ≡ 0) × ((table_of (cleared sp)).full ≡ 0)
  cleared_is_empty =
      let same = view_cleared sp (fits most sp s) in
      (ap (λ (v : View). v.counts.slots) same, ap (λ (v : View). v.counts.full) same)
