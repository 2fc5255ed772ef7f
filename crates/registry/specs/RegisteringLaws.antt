-- Laws of registering an id and of giving a place a list of children: what stands where afterwards, and that the rules of a registry hold
-- on.
use Rattle.std.specs.Prelude.{◌≡◌, ℕ, suc, ◌+◌, ◌*◌, ◌<◌, ◌≤◌, ◌≢◌, ◌⊎◌, ◌↔◌, List, length, ◌==◌, nat_eq, slice_index, slice_set, refl}
use Rattle.std.proofs.Common.{sym, ap, ◌∙◌, inl, inr, ⊎_elim, below_more, eq-eqb, ne_eqb, arith, length-set, get_or-set_same, get_or-set_other}
use Rattle.std.proofs.Math.Decide.{ℕ_discrete, dec_lt}
use Rattle.std.proofs.Math.Logic.{by_cases}
use Rattle.base.specs.Below.{one}
use Rattle.base.specs.Distinct.{Differ, Among}
use Rattle.base.specs.Exactly.{leb_exactly, eqb_exactly}
use Rattle.base.specs.FirstLaws.{first_some_exactly}
use Rattle.base.specs.SumLaws.{sum_const_zero}
use Rattle.registry.specs.Words.{id_at, object_at, state_at, link_at, recycled_at, revoked, has_list, holders, child_of, children}
use Rattle.registry.specs.Sound.{Linked, Short}
use Rattle.registry.specs.Counts.{children_more}
use Rattle.registry.specs.Holders.{place_of}
use Rattle.registry.specs.Registering.{registered, with_list, list_given}
use Rattle.registry.specs.Rules.{RegisteredRules, RecycledRules, RegistryRules, Same, issued_same, ascend_same, children_same, cascaded_same}
use Rattle.registry.specs.StatesOnly.{StatesOnly, ByAt, by_keeps, states_only_one, same_ids, same_links, states_only_registered, states_only_recycled}

-- The first n places keep their words, and so do the words behind the columns.
pub record SamePlaces (places n : ℕ) (rg rg' : List ℕ) : Type 0 where
  pub ids : Same n (id_at rg) (id_at rg')
  pub objects : Same n (object_at places rg) (object_at places rg')
  pub states : Same n (state_at places rg) (state_at places rg')
  pub links : Same n (link_at places rg) (link_at places rg')
  pub behind : (i : ℕ) → 4 * places ≤ i → slice_index rg' i ≡ slice_index rg i

pub same_places_refl : (places n : ℕ) (rg : List ℕ) → SamePlaces places n rg rg
same_places_refl places n rg =
    record { ids = λ k l. refl; objects = λ k l. refl; states = λ k l. refl; links = λ k l. refl; behind = λ i l. refl }

-- One change after the other keeps the places that both keep.
pub same_places_trans :
    (places n n' : ℕ) (rg rg' rg'' : List ℕ) → n ≤ n' → SamePlaces places n' rg rg' → SamePlaces places n rg' rg''
    → SamePlaces places n rg rg''
same_places_trans places n n' rg rg' rg'' fewer h g = record {
  ids = λ k l. g.ids k l ∙ h.ids k (omega arith);
  objects = λ k l. g.objects k l ∙ h.objects k (omega arith);
  states = λ k l. g.states k l ∙ h.states k (omega arith);
  links = λ k l. g.links k l ∙ h.links k (omega arith);
  behind = λ i l. g.behind i l ∙ h.behind i l;
}

-- An id is registered exactly if it is one of the n.
pub registered_among : (n : ℕ) (rg : List ℕ) (id : ℕ) → (place_of n rg id < n) ↔ Among n (id_at rg) id
unfolding place_of
registered_among n rg id = simp (leb_exactly, eqb_exactly) at (first_some_exactly (λ k. nat_eq (id_at rg k) id) n)

-- ---- registering

-- What place n is that an id is registered at.
pub record NewPlace (places n id object link : ℕ) (rg : List ℕ) : Type 0 where
  pub new_id : id_at rg n ≡ id
  pub new_object : object_at places rg n ≡ object
  pub new_state : state_at places rg n ≡ 0
  pub new_link : link_at places rg n ≡ link

-- What the parent is that a new id's link names: registered, with a list that has room, and unrevoked. A link of 0 names none.
pub record Parent (places n link : ℕ) (rg : List ℕ) : Type 0 where
  pub earlier : link ≤ n
  pub parent_has_list : (p : ℕ) → link ≡ suc p → has_list (state_at places rg p) ≡ 1
  pub room : (p : ℕ) → link ≡ suc p → children (link_at places rg) n p < 1024
  pub unrevoked : (p : ℕ) → link ≡ suc p → revoked (state_at places rg p) ≡ 0

pub no_parent : (places n : ℕ) (rg : List ℕ) → Parent places n 0 rg
no_parent places n rg = record {
  earlier = omega arith;
  parent_has_list = λ p e. absurd (omega arith);
  room = λ p e. absurd (omega arith);
  unrevoked = λ p e. absurd (omega arith);
}

-- A place behind all others has no children among them.
children_behind : (n : ℕ) (link : ℕ → ℕ) (p : ℕ) → Linked n link → n ≤ p → children link n p ≡ 0
unfolding children
children_behind n link p linked l =
    sum_const_zero (λ k. one (child_of link p k)) n (λ k u. ap one (ne_eqb (link k) (suc p) (λ e. omega (arith, linked k u))))

module _ (places n id object link : ℕ) (rg : List ℕ) (fit : n < places) (long : 5 * places + 1 ≤ length rg) where
  abbrev new : List ℕ
  new = registered places n id object link rg

  pub length_registered : length new ≡ length rg
  unfolding registered
  length_registered = simp length-set

  word_other : (i : ℕ) → i ≢ n → i ≢ places + n → i ≢ 2 * places + n → i ≢ 3 * places + n → slice_index new i ≡ slice_index rg i
  unfolding registered
  word_other i not_id not_object not_state not_link = rw (get_or-set_other, get_or-set_other, get_or-set_other, get_or-set_other)

  pub registered_other : SamePlaces places n rg new
  registered_other = record {
    ids = λ k l. word_other k (omega arith) (omega arith) (omega arith) (omega arith);
    objects = λ k l. word_other (places + k) (omega arith) (omega arith) (omega arith) (omega arith);
    states = λ k l. word_other (2 * places + k) (omega arith) (omega arith) (omega arith) (omega arith);
    links = λ k l. word_other (3 * places + k) (omega arith) (omega arith) (omega arith) (omega arith);
    behind = λ i l. word_other i (omega arith) (omega arith) (omega arith) (omega arith);
  }

  pub registered_new : NewPlace places n id object link new
  unfolding registered
  registered_new =
      let id_object : n ≢ places + n = omega arith in
      let id_state : n ≢ 2 * places + n = omega arith in
      let id_link : n ≢ 3 * places + n = omega arith in
      let object_state : places + n ≢ 2 * places + n = omega arith in
      let object_link : places + n ≢ 3 * places + n = omega arith in
      let state_link : 2 * places + n ≢ 3 * places + n = omega arith in
      record {
        new_id = rw (get_or-set_other, get_or-set_other, get_or-set_other) (get_or-set_same rg n id 0 (omega arith));
        new_object = rw (get_or-set_other, get_or-set_other)
            (get_or-set_same (slice_set rg n id) (places + n) object 0 (rw length-set (omega arith)));
        new_state = rw get_or-set_other (get_or-set_same (slice_set (slice_set rg n id) (places + n) object) (2 * places + n) 0 0
            (simp length-set (omega arith)));
        new_link =
            get_or-set_same (slice_set (slice_set (slice_set rg n id) (places + n) object) (2 * places + n) 0) (3 * places + n) link 0
            (simp length-set (omega arith));
      }

  -- A child of the new registry is one of the old, or the new place.
  child_cases : (k p : ℕ) → k < n + 1 → link_at places new k ≡ suc p
      → ((k < n) × (link_at places rg k ≡ suc p)) ⊎ ((k ≡ n) × (link ≡ suc p))
  child_cases k p l e =
      by_cases (dec_lt k n)
      (λ u. inl (u, sym (registered_other.links k u) ∙ e))
      (λ last. let here : k ≡ n = omega arith in inr (here, sym registered_new.new_link ∙ ap (link_at places new) (sym here) ∙ e))

  module _ (next : ℕ) (old : RegisteredRules places n next rg) (fresh : (k : ℕ) → k < n → id_at rg k ≢ id)
      (parent : Parent places n link rg) where
    -- Old or new, a child's parent has an old place, and so its old state.
    parent_state : (k p : ℕ) → k < n + 1 → link_at places new k ≡ suc p → state_at places new p ≡ state_at places rg p
    parent_state k p l e =
        registered_other.states p
        (⊎_elim (λ (u, h). omega (arith, old.linked k u)) (λ (here, h). omega (arith, parent.earlier)) (child_cases k p l e))

    differ_more : Differ (n + 1) (id_at new)
    differ_more j l i u e =
        let first_id : id_at rg i ≡ id_at new j = sym (registered_other.ids i (omega arith)) ∙ e in
        by_cases (dec_lt j n)
        (λ below. old.differ j below i u (first_id ∙ registered_other.ids j below))
        (λ last. let here : j ≡ n = omega arith in fresh i (omega arith) (first_id ∙ ap (id_at new) here ∙ registered_new.new_id))

    short_more : Short (n + 1) (link_at places new)
    short_more p l =
        let count : children (link_at places new) (n + 1) p ≡ children (link_at places rg) n p + one (link == suc p) =
        children_more (link_at places new) n p
        ∙ ap (λ c. c + one (child_of (link_at places new) p n))
        (children_same n (link_at places rg) (link_at places new) registered_other.links p)
        ∙ ap (λ v. children (link_at places rg) n p + one (v == suc p)) registered_new.new_link in
        by_cases (ℕ_discrete link (suc p))
        (λ child. omega (arith, count, parent.room p child, ap one (eq-eqb link (suc p) child)))
        (λ other.
        by_cases (dec_lt p n)
        (λ below. omega (arith, count, old.short p below, ap one (ne_eqb link (suc p) other)))
        (λ last.
        omega (arith, count, children_behind n (link_at places rg) p old.linked (omega arith), ap one (ne_eqb link (suc p) other))))

    registered_rules : 1 ≤ id → id < next → RegisteredRules places (n + 1) next new
    registered_rules positive issued = record {
      differ = differ_more;
      issued =
          below_more (λ k. (1 ≤ id_at new k) × (id_at new k < next)) n
          (λ k l. rw (registered_other.ids k l) (old.issued k l)) (rw registered_new.new_id (positive, issued));
      linked =
          below_more (λ k. link_at places new k ≤ k) n
          (λ k l. rw (registered_other.links k l) (old.linked k l)) (rw registered_new.new_link parent.earlier);
      parent_has_list = λ k l p e.
          rw (parent_state k p l e)
          (⊎_elim (λ (u, h). old.parent_has_list k u p h) (λ (here, h). parent.parent_has_list p h) (child_cases k p l e));
      short = short_more;
      cascaded = λ k l p e gone.
          let gone_before : revoked (state_at places rg p) ≡ 1 = rw (parent_state k p l e) at gone in
          ⊎_elim (λ (u, h). rw (registered_other.states k u) (old.cascaded k u p h gone_before))
          (λ (here, h). absurd (omega (arith, parent.unrevoked p h)))
          (child_cases k p l e);
    }

  pub registered_keeps :
      (m next : ℕ) (spaces : ℕ → ℕ) → RegistryRules places n m next spaces rg → 1 ≤ id → id < next
      → ((k : ℕ) → k < n → id_at rg k ≢ id) → ((j : ℕ) → j < m → recycled_at places rg j ≢ id) → Parent places n link rg
      → RegistryRules places (n + 1) m next spaces new
  registered_keeps m next spaces rules positive issued fresh unrecycled parent =
      let old : RecycledRules places n m next rg = rules.recycled in
      let again : Same m (recycled_at places rg) (recycled_at places new) = λ j l. registered_other.behind (4 * places + j) (omega arith) in
      record {
        registered = registered_rules next rules.registered fresh parent positive issued;
        recycled = record {
          ascend = ascend_same m (recycled_at places rg) (recycled_at places new) again old.ascend;
          unregistered = λ j l.
              below_more (λ k. recycled_at places new j ≢ id_at new k) n
              (λ k u e. old.unregistered j l k u (sym (again j l) ∙ e ∙ registered_other.ids k u))
              (λ e. unrecycled j l (sym (again j l) ∙ e ∙ registered_new.new_id));
          issued = issued_same m (recycled_at places rg) (recycled_at places new) next again old.issued;
        };
        held =
            below_more (λ k. holders (state_at places new k) ≤ spaces (id_at new k)) n
            (λ k l. rw (registered_other.states k l, registered_other.ids k l) (rules.held k l))
            (rw registered_new.new_state (omega arith));
      }

-- ---- giving a list

-- Of the states only the flag changes that says that place p has a list.
pub record OnlyListed (places p : ℕ) (rg rg' : List ℕ) : Type 0 where
  pub revoked_stays : (k : ℕ) → revoked (state_at places rg' k) ≡ revoked (state_at places rg k)
  pub holders_stay : (k : ℕ) → holders (state_at places rg' k) ≡ holders (state_at places rg k)
  pub has_list_here : has_list (state_at places rg' p) ≡ 1
  pub has_list_stays : (k : ℕ) → k ≢ p → has_list (state_at places rg' k) ≡ has_list (state_at places rg k)

module _ (state : ℕ) where
  with_list_flag : has_list (with_list state) ≡ 1
  with_list_flag =
      by_cases (ℕ_discrete (has_list state) 1)
      (λ has. rw (eq-eqb (has_list state) 1 has) has)
      (λ none'. rw (ne_eqb (has_list state) 1 none') (omega arith))

  with_list_rest : (revoked (with_list state) ≡ revoked state) × (holders (with_list state) ≡ holders state)
  with_list_rest =
      by_cases (ℕ_discrete (has_list state) 1)
      (λ has. rw (eq-eqb (has_list state) 1 has) (refl, refl))
      (λ none'. rw (ne_eqb (has_list state) 1 none') (omega arith))

module _ (places p : ℕ) (rg : List ℕ) (fit : p < places) (long : 5 * places + 1 ≤ length rg) where
  abbrev given : List ℕ
  given = list_given places p rg

  pub list_given_only : StatesOnly (ByAt with_list (λ k. k ≡ p)) places rg given
  unfolding list_given
  list_given_only = states_only_one places with_list p rg fit long

  pub list_given_state : OnlyListed places p rg given
  list_given_state = record {
    revoked_stays = λ k. by_keeps revoked with_list (λ s. (with_list_rest s).0) (λ k. k ≡ p) k _ _ (list_given_only.states k);
    holders_stay = λ k. by_keeps holders with_list (λ s. (with_list_rest s).1) (λ k. k ≡ p) k _ _ (list_given_only.states k);
    has_list_here =
        ⊎_elim
        (λ (_, e). ap has_list e ∙ with_list_flag (state_at places rg p))
        (λ (other, _). absurd (other refl))
        (list_given_only.states p);
    has_list_stays = λ k other. ⊎_elim (λ (here, _). absurd (other here)) (λ (_, e). ap has_list e) (list_given_only.states k);
  }

  pub list_given_keeps :
      (n m next : ℕ) (spaces : ℕ → ℕ) → n ≤ places → RegistryRules places n m next spaces rg → RegistryRules places n m next spaces given
  list_given_keeps n m next spaces registered_fit rules =
      let old : RegisteredRules places n next rg = rules.registered in
      let link : ℕ → ℕ = link_at places rg in
      let link' : ℕ → ℕ = link_at places given in
      let links : Same n link link' = λ k l. same_links places rg given list_given_only k in
      record {
        registered =
            states_only_registered places rg given list_given_only n registered_fit next
            (λ k l q e.
            by_cases (ℕ_discrete q p)
            (λ here. rw here list_given_state.has_list_here)
            (λ other. list_given_state.has_list_stays q other ∙ old.parent_has_list k l q (sym (links k l) ∙ e)))
            (cascaded_same n link link' links (state_at places rg) (state_at places given) old.linked
            (λ k l. list_given_state.revoked_stays k) old.cascaded)
            old;
        recycled = states_only_recycled places rg given list_given_only n registered_fit next m rules.recycled;
        held = λ k l.
            rw (list_given_state.holders_stay k, same_ids places rg given list_given_only k (omega arith)) (rules.held k l);
      }
