-- When each answer of delete, check and the calls that read is given: 26 exactly on memory that is not sound, 20 exactly on a sound one for
-- a space number of S or more, every other answer exactly in its stated case. CreateTold.antt and DelegateTold.antt say it of the others.
use Rattle.std.proofs.Common.{Bool, true, false, true≢false, List, ◌↔◌, ◌⊎◌, inl, inr, ⊎_elim, ◌≡◌, refl, sym, ap, ◌∙◌, ℕ, ◌^◌, ◌≤◌, ◌<◌, arith, length}
use Rattle.answers.specs.Number.{number_of}
use Rattle.answers.specs.Answer.{Done, InsufficientRights, CapabilityRevoked, NotFound, BadField, RecycleFull, BadWorld}
use Rattle.registry.specs.ChildrenLaws.{child_ids-length}
use Rattle.space.specs.Lookup.{looked_up}
use Rattle.steps.specs.Replies.{Left, WithArea, done, refusal, Reply}
use Rattle.steps.specs.Steps.{space_of, place_in, children_of}
use Rattle.base.specs.Cases.{when_from, either}
use Rattle.steps.proofs.laws.Cases.{answer_of, Exactly, given, not_given}
use Rattle.steps.proofs.laws.Entered.{world_by_cases}
use Rattle.steps.proofs.laws.Listed.{into_by_cases}
use Rattle.steps.proofs.laws.Told.{Told, Inner, told, world_told, told_0, world_told_0, inner, inner_0}
use Rattle.token.specs.Token.{id_of}
use Rattle.world.specs.Numbers.{numbers_of, registered_of, recycled_of}
use Rattle.world.specs.Regions.{registry, view}
use Rattle.world.specs.Sound.{Sound}
use Rattle.world.specs.declared.Numbers.{Numbers}
use Rattle.manager_calls.specs.Calls.{delete_out, grants, valid_in, check_out, is_valid_out, stats_out, children_out, tree_stats_out, census_out, StatsReply, TreeReply}
use Rattle.manager_laws.proofs.laws.Ways.{delete_by_cases, check_by_cases}

-- ---- 26 and 20: no answer of a call's own is either

abbrev Fine : Left Reply → Type 0
Fine out = Inner (answer_of out)

module _ (mem : List ℕ) where
  abbrev d : Numbers
  d = numbers_of mem

  pub check_entered : (token required s : ℕ) → Told mem s (check_out mem token required s).reply.answer
  unfolding check_out
  check_entered token required s =
      told answer_of _ mem _ (λ a. refl)
      (either Fine _ _ _ (inner InsufficientRights refl refl) (either Fine _ _ _ (inner CapabilityRevoked refl refl) inner_0))
      s

  pub census_entered : (s : ℕ) → Told mem s (census_out mem s).answer
  unfolding census_out
  census_entered s = told (λ (r : Reply). r.answer) _ mem _ (λ a. refl) inner_0 s

  -- A call without a space is never answered 20.
  pub delete_entered : (token : ℕ) → ((delete_out mem token).reply.answer ≡ BadWorld) ↔ (¬ Sound mem)
  unfolding delete_out
  delete_entered token =
      world_told answer_of _ mem _ (λ a. refl)
      (either Fine _ _ _ (inner NotFound refl refl) (either Fine _ _ _ (inner RecycleFull refl refl) inner_0))

  pub is_valid_entered : (token : ℕ) → ((is_valid_out mem token).answer ≡ BadWorld) ↔ (¬ Sound mem)
  unfolding is_valid_out
  is_valid_entered token = world_told (λ (r : Reply). r.answer) _ mem _ (λ a. refl) inner_0

  pub stats_entered : ((stats_out mem).answer ≡ BadWorld) ↔ (¬ Sound mem)
  unfolding stats_out
  stats_entered = world_told (λ (r : StatsReply). r.answer) _ mem _ (λ a. refl) inner_0

  pub tree_stats_entered : ((tree_stats_out mem).answer ≡ BadWorld) ↔ (¬ Sound mem)
  unfolding tree_stats_out
  tree_stats_entered = world_told (λ (r : TreeReply). r.answer) _ mem _ (λ a. refl) inner_0

  pub children_entered : (id : ℕ) (area : List ℕ) → ((children_out mem id area).reply.answer ≡ BadWorld) ↔ (¬ Sound mem)
  unfolding children_out
  children_entered id area =
      let fine : WithArea → Type 0 = λ (l : WithArea). Inner l.reply.answer in
      world_told (λ (l : WithArea). l.reply.answer) _ mem _ (λ a. refl)
      (either fine _ _ _ (inner BadField refl refl)
      (into_by_cases _ area fine (λ short. inner BadField refl refl) (λ long. inner_0)))

-- ---- 0 of the calls with no refusal of their own

module _ (mem : List ℕ) where
  pub is_valid_told_0 : (token : ℕ) → ((is_valid_out mem token).answer ≡ Done) ↔ Sound mem
  unfolding is_valid_out
  is_valid_told_0 token = world_told_0 (λ (r : Reply). r.answer) _ mem _ (λ a. refl) refl

  pub stats_told_0 : ((stats_out mem).answer ≡ Done) ↔ Sound mem
  unfolding stats_out
  stats_told_0 = world_told_0 (λ (r : StatsReply). r.answer) _ mem _ (λ a. refl) refl

  pub tree_stats_told_0 : ((tree_stats_out mem).answer ≡ Done) ↔ Sound mem
  unfolding tree_stats_out
  tree_stats_told_0 = world_told_0 (λ (r : TreeReply). r.answer) _ mem _ (λ a. refl) refl

  pub census_told_0 : (s : ℕ) → ((census_out mem s).answer ≡ Done) ↔ (Sound mem × (s < (numbers_of mem).spaces))
  unfolding census_out
  census_told_0 s = told_0 (λ (r : Reply). r.answer) _ mem _ (λ a. refl) refl s

-- ---- delete, check, the list of children

module _ (mem : List ℕ) (sound : Sound mem) where
  abbrev n : ℕ
  n = registered_of mem

  module _ (token : ℕ) where
    abbrev k : ℕ
    k = place_in (numbers_of mem) mem (id_of token)

    pub delete_told_8 :
        ((delete_out mem token).reply.answer ≡ NotFound) ↔ (registered_of mem ≤ place_in (numbers_of mem) mem (id_of token))
    delete_told_8 =
        delete_by_cases mem token (Exactly NotFound (n ≤ k))
        (λ bad. absurd (bad sound))
        (λ sound outside. (λ e. outside, λ l. refl))
        (λ sound inside full. (λ e. absurd (omega (arith, ap number_of e)), λ l. absurd (omega arith)))
        (λ sound inside room. (λ e. absurd (omega (arith, ap number_of e)), λ l. absurd (omega arith)))

    pub delete_told_23 :
        ((delete_out mem token).reply.answer ≡ RecycleFull)
        ↔ ((place_in (numbers_of mem) mem (id_of token) < registered_of mem) × ((numbers_of mem).places < recycled_of mem))
    delete_told_23 =
        delete_by_cases mem token (Exactly RecycleFull ((k < n) × ((numbers_of mem).places < recycled_of mem)))
        (λ bad. absurd (bad sound))
        (λ sound outside. (λ e. absurd (omega (arith, ap number_of e)), λ (l, u). absurd (omega arith)))
        (λ sound inside full. (λ e. (inside, full), λ (l, u). refl))
        (λ sound inside room. (λ e. absurd (omega (arith, ap number_of e)), λ (l, u). absurd (omega arith)))

    pub delete_told_0 :
        ((delete_out mem token).reply.answer ≡ Done)
        ↔ ((place_in (numbers_of mem) mem (id_of token) < registered_of mem) × (recycled_of mem ≤ (numbers_of mem).places))
    delete_told_0 =
        delete_by_cases mem token (Exactly Done ((k < n) × (recycled_of mem ≤ (numbers_of mem).places)))
        (λ bad. absurd (bad sound))
        (λ sound outside. (λ e. absurd (omega (arith, ap number_of e)), λ (l, u). absurd (omega arith)))
        (λ sound inside full. (λ e. absurd (omega (arith, ap number_of e)), λ (l, u). absurd (omega arith)))
        (λ sound inside room. (λ e. (inside, room), λ (l, u). refl))

  module _ (token required s : ℕ) (there : s < (numbers_of mem).spaces) where
    abbrev granted : Bool
    granted = grants required (looked_up (space_of (numbers_of mem) s mem) token).got

    abbrev good : Bool
    good = valid_in (numbers_of mem) mem token

    pub check_told_2 :
        ((check_out mem token required s).reply.answer ≡ InsufficientRights)
        ↔ (grants required (looked_up (space_of (numbers_of mem) s mem) token).got ≡ false)
    check_told_2 =
        check_by_cases mem token required s (Exactly InsufficientRights (granted ≡ false))
        (λ bad. absurd (bad sound))
        (λ sound far. absurd (omega arith))
        (λ sound there without. (λ e. without, λ w. refl))
        (λ sound there with' stale. (λ e. absurd (omega (arith, ap number_of e)), λ w. absurd (true≢false (sym with' ∙ w))))
        (λ sound there with' is. (λ e. absurd (omega (arith, ap number_of e)), λ w. absurd (true≢false (sym with' ∙ w))))

    pub check_told_3 :
        ((check_out mem token required s).reply.answer ≡ CapabilityRevoked)
        ↔ ((grants required (looked_up (space_of (numbers_of mem) s mem) token).got ≡ true) × (valid_in (numbers_of mem) mem token ≡ false))
    check_told_3 =
        check_by_cases mem token required s (Exactly CapabilityRevoked ((granted ≡ true) × (good ≡ false)))
        (λ bad. absurd (bad sound))
        (λ sound far. absurd (omega arith))
        (λ sound there without. (λ e. absurd (omega (arith, ap number_of e)), λ (w, i). absurd (true≢false (sym w ∙ without))))
        (λ sound there with' stale. (λ e. (with', stale), λ any. refl))
        (λ sound there with' is. (λ e. absurd (omega (arith, ap number_of e)), λ (w, i). absurd (true≢false (sym is ∙ i))))

  module _ (id : ℕ) (area : List ℕ) where
    abbrev count : ℕ
    count = children_of (numbers_of mem) mem (place_in (numbers_of mem) mem id)

    children_by_cases :
        (P : WithArea → Type 0) → ((2 ^ 48 ≤ id) ⊎ (length area < count) → P (record { reply = refusal BadField; area = area }))
        → (id < 2 ^ 48 → count ≤ length area → (after : List ℕ) → P (record { reply = done count; area = after }))
        → P (children_out mem id area)
    unfolding children_out
    children_by_cases P refused listed =
        world_by_cases P _ mem _ (λ bad. absurd (bad sound))
        (λ sound.
        when_from P _ _ (2 ^ 48) id (λ over. refused (inl over))
        (λ fits.
        let d : Numbers = numbers_of mem in
        let same = child_ids-length d.places (place_in d mem id) (registered_of mem) (view d registry mem) in
        into_by_cases _ area P (λ short. refused (inr (omega arith)))
        (λ long. rw same (listed fits (omega arith) _))))

    pub children_told_21 :
        ((children_out mem id area).reply.answer ≡ BadField)
        ↔ ((2 ^ 48 ≤ id) ⊎ (length area < children_of (numbers_of mem) mem (place_in (numbers_of mem) mem id)))
    children_told_21 =
        children_by_cases (λ (l : WithArea). (l.reply.answer ≡ BadField) ↔ ((2 ^ 48 ≤ id) ⊎ (length area < count)))
        (λ any. given refl any)
        (λ fits long after. not_given Done BadField (λ e. omega (arith, e)) (⊎_elim (λ over. omega arith) (λ short. omega arith)))

    pub children_told_0 :
        ((children_out mem id area).reply.answer ≡ Done)
        ↔ ((id < 2 ^ 48) × (children_of (numbers_of mem) mem (place_in (numbers_of mem) mem id) ≤ length area))
    children_told_0 =
        children_by_cases (λ (l : WithArea). (l.reply.answer ≡ Done) ↔ ((id < 2 ^ 48) × (count ≤ length area)))
        (λ any. not_given BadField Done (λ e. omega (arith, e)) (λ (fits, long). ⊎_elim (λ over. omega arith) (λ short. omega arith) any))
        (λ fits long after. given refl (fits, long))
