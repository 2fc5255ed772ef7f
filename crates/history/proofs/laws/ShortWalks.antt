-- On a sound memory every walk of a call visits at most one slot more than the live and removed entries that its table has when it
-- begins. Each moment of a call at which a walk begins is sound again, so it is enough that walks of sound tables are short.
use Rattle.std.proofs.Common.{Bool, true, false, List, [], ◌∷◌, ◌≡◌, refl, ℕ, zero, suc, ◌+◌, ◌*◌, ◌≤◌, ◌<◌, zero-add, arith, eqb-true, eqb, length}
use Rattle.base.specs.Choose.{pick, both_left}
use Rattle.registry.specs.Words.{revoked}
use Rattle.space.proofs.laws.Kept.{long}
use Rattle.space.specs.Words.{table_of, slot_words}
use Rattle.steps.proofs.laws.Ready.{is_space}
use Rattle.steps.proofs.laws.RegistrySteps.{collect_step_kept}
use Rattle.steps.proofs.laws.SpaceSteps.{lookup_step_kept}
use Rattle.steps.proofs.laws.TakeStep.{take_step_kept}
use Rattle.steps.specs.Steps.{space_of, take_step, place_in, objects, list_step, children_of}
use Rattle.table.proofs.laws.Copy.{Copying, copy_one, copying_first, copying_room, copying_more, copying_same}
use Rattle.table.proofs.laws.Insert.{insert_walk_visits}
use Rattle.table.proofs.laws.Rebuild.{rebuild_walk_visits}
use Rattle.table.proofs.laws.Room.{room_fits, room_le}
use Rattle.table.proofs.laws.Structure.{sound_structure}
use Rattle.table.proofs.laws.Visits.{visits_le}
use Rattle.table.specs.Copy.{insert_all}
use Rattle.table.specs.Insert.{Table, live_entries, room_for, slots_for, none}
use Rattle.table.specs.Slots.{is_live, id_at, id_of, entry_at}
use Rattle.table.specs.Sound as table
use Rattle.table.specs.declared.CapTable.{CapTable}
use Rattle.table.specs.declared.CapabilityEntry.{CapabilityEntry}
use Rattle.token.specs.Token.{type_of, id_of as token_id}
use Rattle.manager_laws.proofs.laws.SameRegistered.{take_same, same_place, same_children}
use Rattle.manager_laws.proofs.laws.StepsKept.{registered_kept, taken_in_hand, parentless, offered_kept, parent_registered, collected_place, child_registration}
use Rattle.world.specs.Numbers.{registered_of}
use Rattle.world.specs.Sound.{states, SoundAt}
use Rattle.world.specs.declared.Numbers.{Numbers}
use Rattle.history.specs.Call.{Call}
use Rattle.history.specs.Walks.{Walk, Inserts, moving, entering, Copies, this_entry, later_entry, seeking, InsertsInto, testing, storing, Offers, this_child, after_a_miss, past_others, WithRoom, few_children, collected, MakesChild, Delegates, offering_child, making, LooksOver, looking, Looks, looking_over, WalksOf}
use Rattle.history.specs.Walks.{before_reading, before_accepting, before_changing, in_get_entry, in_lookup, in_lookup_entry, in_check_rights, in_remove, in_space_revoke, in_check, in_revoke_held, in_insert, in_copy, in_space_create, in_create, in_delegate_source, in_delegate}

abbrev Short : Walk → Type 0
Short w = w.visits ≤ w.live + w.removed + 1

-- ---- on one table

module _
    (most : ℕ) (ws : List ℕ) (t : CapTable) (sound : table.Sound most ws t) (more : t.full < most) (fits : 4 * slots_for most ≤ length ws)
  where
    inserts_short : (id : ℕ) (w : Walk) → Inserts ws t id w → Short w
    inserts_short id _ (moving i tight l live) =
        omega (
          arith,
          rebuild_walk_visits ws t.slots t.full t.tombstones (room_for t.full) (sound_structure most ws t sound)
              (omega (arith, room_fits t.full))
              (omega (arith, room_le most t.full more))
              i
              l
              live
              (id_at ws i),
        )
    inserts_short id _ entering = insert_walk_visits most ws t sound more fits id

-- Every insert of the entries, each into the table that those before it made.
unfoldable AllShort : List CapabilityEntry → Table → Type 0
AllShort [] u = Unit {0}
AllShort (e ∷ es) u = ((w : Walk) → Inserts u.words u.counts (id_of e) w → Short w) × AllShort es (insert_all (e ∷ []) u)

copies_short : (es : List CapabilityEntry) (u : Table) (w : Walk) → AllShort es u → Copies es u w → Short w
unfolding AllShort
copies_short _ _ _ all (this_entry e rest u w walk) = all.0 w walk
copies_short _ _ _ all (later_entry e rest u w walks) = copies_short rest (insert_all (e ∷ []) u) w all.1 walks

module _
    (most : ℕ) (source : List ℕ) (t : CapTable) (target : List ℕ) (sound : table.Sound most source t)
    (fits : 4 * slots_for most ≤ length target)
  where
    copying_short : (n i : ℕ) (u : Table) → i + n ≡ t.slots → Copying most source target i u → AllShort (live_entries source i n) u
    unfolding AllShort live_entries insert_all
    copying_short zero i u e c = tt
    copying_short (suc n) i u e c = go (is_live source i) refl (λ v. copying_short n (suc i) v (omega arith))
      where
        rest : List CapabilityEntry
        rest = live_entries source (suc i) n

        go :
            (b : Bool) → is_live source i ≡ b → ((v : Table) → Copying most source target (suc i) v → AllShort rest v)
            → AllShort (pick b (entry_at source i ∷ rest) rest) u
        go true live later = (
          inserts_short most u.words u.counts c.sound (copying_room most source t target sound fits i u (omega arith) live c)
              (omega (arith, c.long))
              (id_of (entry_at source i)),
          later (copy_one (entry_at source i) u) (copying_more most source t target sound fits i u (omega arith) live c),
        )
        go false free later = later u (copying_same most source t target sound fits i u (omega arith) free c)

    copy_short :
        (w : Walk) → Copies (live_entries source 0 t.slots) (record { words = target; counts = none; moved = 0 }) w → Short w
    copy_short w =
        copies_short _ _ w
        (copying_short t.slots 0 _ (zero-add t.slots) (copying_first most source t target sound fits))

-- ---- in a sound memory

module _ (d : Numbers) (mem : List ℕ) (sound : SoundAt d mem) (s : ℕ) (valid : s < d.spaces) where
  abbrev sp : List ℕ
  sp = space_of d s mem

  seeking_short : (id : ℕ) → Short (seeking sp id)
  seeking_short id = visits_le (slot_words sp) (table_of sp).slots id (sound.spaces s valid).table.coded

  insert_short : (id : ℕ) (w : Walk) → InsertsInto sp id w → Short w
  insert_short id _ testing = seeking_short id
  insert_short id _ (storing w under absent walk) =
      inserts_short d.most (slot_words sp) (table_of sp) (sound.spaces s valid).table (omega (arith, (sound.spaces s valid).quota))
      (long d.most sp (is_space d mem sound s valid)) id w walk

-- ---- delegate

offers_short :
    (d : Numbers) (target p cap_type rights k m : ℕ) (mem : List ℕ) (w : Walk) → target < d.spaces → SoundAt d mem
    → Offers d target p cap_type rights k m mem w → Short w
offers_short d target p cap_type rights _ _ _ _ valid sound (this_child k m mem child) = seeking_short d mem sound target valid _
offers_short d target p cap_type rights _ _ _ _ valid sound (after_a_miss k m mem w child other later) =
    offers_short d target p cap_type rights (k + 1) _ _ w valid (lookup_step_kept d mem sound target valid _).sound later
offers_short d target p cap_type rights _ _ _ _ valid sound (past_others k m mem w none' later) =
    offers_short d target p cap_type rights (k + 1) _ mem w valid sound later

module _ (d : Numbers) (mem : List ℕ) (sound : SoundAt d mem) (token : ℕ) where
  -- The memory with room is sound, and has it.
  room_made :
      (roomy : List ℕ) → WithRoom d (place_in d mem (token_id token)) mem roomy
      → SoundAt d roomy × (children_of d roomy (place_in d roomy (token_id token)) < 1024)
  room_made _ (few_children few) = (sound, few)
  room_made _ (collected many few) =
      let p : ℕ = place_in d mem (token_id token) in
      let inside = parent_registered d mem sound p (omega arith) in
      ((collect_step_kept d mem sound p inside).sound, rw (collected_place d mem sound p inside (token_id token) refl) few)

  makes_short : (target rights : ℕ) (w : Walk) → target < d.spaces → MakesChild d target token rights mem w → Short w
  makes_short target rights w valid child =
      let roomy : List ℕ = child.roomy in
      let (still, few) = room_made roomy child.has_room in
      let after : List ℕ = take_step d roomy in
      let p : ℕ = place_in d after (token_id token) in
      let derives = child.walk in
      let same = take_same d roomy still in
      let few_after : children_of d after p < 1024 =
      rw (same_place d roomy after same (token_id token), same_children d roomy after same (place_in d roomy (token_id token))) few in
      let unrevoked = eqb-true (revoked (states d after p)) 0 (both_left (eqb (revoked (states d after p)) 0) _ derives.good) in
      let registration =
      child_registration d after (take_step_kept d roomy still).sound p derives.registered child.id derives.room
      (taken_in_hand d roomy still child.id child.taken) unrevoked few_after in
      insert_short d _ (registered_kept d (list_step d p after) child.id (objects d after p) (suc p) registration).sound target valid _ w
      derives.walk

delegates_short :
    (d : Numbers) (mem : List ℕ) (target token rights : ℕ) (w : Walk) → SoundAt d mem → target < d.spaces
    → Delegates d target token rights mem w → Short w
delegates_short d mem target token rights _ sound to (offering_child w walks) = offers_short d target _ _ _ 0 _ mem w to sound walks
delegates_short d mem target token rights _ sound to (making w child) =
    let offers = offered_kept d target (place_in d mem (token_id token)) (type_of token) rights 0 (registered_of mem) mem to sound in
    makes_short d _ offers.sound token target rights w to child

-- ---- every call

module _ (d : Numbers) (mem : List ℕ) (sound : SoundAt d mem) where
  look_short : (w : Walk) → Looks d mem w → Short w
  look_short _ (looking_over s w valid over) = over_short s valid w over
    where
      over_short : (s : ℕ) → s < d.spaces → (w : Walk) → LooksOver (space_of d s mem) w → Short w
      over_short s valid _ (looking i l live) = seeking_short d mem sound s valid _

  pub walk_is_short : (call : Call) (w : Walk) → WalksOf d mem call w → w.visits ≤ w.live + w.removed + 1
  walk_is_short _ _ (before_reading call w look) = look_short w look
  walk_is_short _ _ (before_accepting call w look) = look_short w look
  walk_is_short _ _ (before_changing call w look) = look_short w look
  walk_is_short _ _ (in_get_entry s id valid) = seeking_short d mem sound s valid _
  walk_is_short _ _ (in_lookup s token valid) = seeking_short d mem sound s valid _
  walk_is_short _ _ (in_lookup_entry s token valid) = seeking_short d mem sound s valid _
  walk_is_short _ _ (in_check_rights s token required valid) = seeking_short d mem sound s valid _
  walk_is_short _ _ (in_remove s token valid) = seeking_short d mem sound s valid _
  walk_is_short _ _ (in_space_revoke s id t valid made) = seeking_short d mem sound s valid _
  walk_is_short _ _ (in_check token required s valid) = seeking_short d mem sound s valid _
  walk_is_short _ _ (in_revoke_held s token time listed valid) = seeking_short d mem sound s valid _
  walk_is_short _ _ (in_insert s token object rights fits w valid walks) = insert_short d mem sound s valid _ w walks
  walk_is_short _ _ (in_copy target source w to from walks) =
      copy_short d.most _ (table_of (space_of d source mem)) _ (sound.spaces source from).table
      (long d.most _ (is_space d mem sound target to)) w walks
  walk_is_short _ _ (in_space_create s rights object id fits t w valid taken made walks) =
      insert_short d _ (take_step_kept d mem sound).sound s valid _ w walks
  walk_is_short _ _ (in_create s object on cap_type rights id fits w valid taken room walks) =
      let taking = take_step_kept d mem sound in
      let alone = parentless d _ taking.sound id room (taken_in_hand d mem sound id taken) in
      insert_short d _ (registered_kept d _ id object 0 alone).sound s valid _ w walks
  walk_is_short _ _ (in_delegate_source token source target rights fits from to) = seeking_short d mem sound source from _
  walk_is_short _ _ (in_delegate token source target rights fits e w from to found walks) =
      delegates_short d _ target token _ w (lookup_step_kept d mem sound source from token).sound to walks
