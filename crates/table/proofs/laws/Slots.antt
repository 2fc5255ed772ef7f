-- What a write to slot i does: slot i is then what was written, and every other slot is what it was. The writes are `put_entry`,
-- `put_mark`, and `set ws (4 * i + 3) 0`, which empties the slot.
use Rattle.std.proofs.Common.{◌≡◌, ap, ◌≢◌, true, false, List, ℕ, ◌+◌, ◌*◌, ◌/◌, ◌%◌, ◌^◌, ◌<◌, arith, eqb, length, get_or, set, length-set, get_or-set_same, get_or-set_other}
use Rattle.base.specs.Stores.{stores}
use Rattle.token.specs.Token.{id_of as token_id}
use Rattle.table.specs.Slots.{kind_at, is_empty, is_removed, is_live, id_at, id_of, entry_at, put_entry, put_mark}
use Rattle.table.specs.declared.CapabilityEntry.{CapabilityEntry}

-- ---- a slot whose words are the same

-- Slot j has the same four words in vs as in ws.
pub record SameSlot (ws vs : List ℕ) (j : ℕ) : Type 0 where
  pub token : get_or vs (4 * j) 0 ≡ get_or ws (4 * j) 0
  pub object : get_or vs (4 * j + 1) 0 ≡ get_or ws (4 * j + 1) 0
  pub uses : get_or vs (4 * j + 2) 0 ≡ get_or ws (4 * j + 2) 0
  pub tag : get_or vs (4 * j + 3) 0 ≡ get_or ws (4 * j + 3) 0

-- So it is the same in all that the words say.
module _ (ws vs : List ℕ) (j : ℕ) (same : SameSlot ws vs j) where
  pub same_kind : kind_at vs j ≡ kind_at ws j
  same_kind = ap (λ w. w / 2 ^ 32) same.tag

  pub same_live : is_live vs j ≡ is_live ws j
  same_live = ap (λ k. eqb k 2) same_kind

  pub same_empty : is_empty vs j ≡ is_empty ws j
  same_empty = ap (λ k. eqb k 0) same_kind

  pub same_removed : is_removed vs j ≡ is_removed ws j
  same_removed = ap (λ k. eqb k 1) same_kind

  pub same_id : id_at vs j ≡ id_at ws j
  same_id = ap token_id same.token

  pub same_entry : entry_at vs j ≡ entry_at ws j
  unfolding entry_at
  same_entry = cc

-- ---- a slot filled

pub entry_length : (ws : List ℕ) (i : ℕ) (e : CapabilityEntry) → length (put_entry ws i e) ≡ length ws
unfolding put_entry
entry_length ws i e = simp length-set

-- Word w stands in slot w / 4.
entry_word : (ws : List ℕ) (i w : ℕ) (e : CapabilityEntry) → w / 4 ≢ i → get_or (put_entry ws i e) w 0 ≡ get_or ws w 0
unfolding put_entry
entry_word ws i w e d =
    let at0 : w ≢ 4 * i = omega arith in
    let at1 : w ≢ 4 * i + 1 = omega arith in
    let at2 : w ≢ 4 * i + 2 = omega arith in
    let at3 : w ≢ 4 * i + 3 = omega arith in
    simp get_or-set_other

pub entry_others : (ws : List ℕ) (i j : ℕ) (e : CapabilityEntry) → j ≢ i → SameSlot ws (put_entry ws i e) j
entry_others ws i j e d =
    record {
      token = entry_word ws i (4 * j) e (omega arith);
      object = entry_word ws i (4 * j + 1) e (omega arith);
      uses = entry_word ws i (4 * j + 2) e (omega arith);
      tag = entry_word ws i (4 * j + 3) e (omega arith);
    }

module _ (ws : List ℕ) (i : ℕ) (e : CapabilityEntry) (fits : 4 * i + 3 < length ws) where
  entry_token : get_or (put_entry ws i e) (4 * i) 0 ≡ e.capability.0
  unfolding put_entry
  entry_token =
      let d1 : 4 * i ≢ 4 * i + 1 = omega arith in
      let d2 : 4 * i ≢ 4 * i + 2 = omega arith in
      let d3 : 4 * i ≢ 4 * i + 3 = omega arith in
      let l : 4 * i < length ws = omega arith in
      simp (get_or-set_other, get_or-set_same)

  entry_object : get_or (put_entry ws i e) (4 * i + 1) 0 ≡ e.object
  unfolding put_entry
  entry_object =
      let d2 : 4 * i + 1 ≢ 4 * i + 2 = omega arith in
      let d3 : 4 * i + 1 ≢ 4 * i + 3 = omega arith in
      let l : 4 * i + 1 < length ws = omega arith in
      simp stores

  entry_uses : get_or (put_entry ws i e) (4 * i + 2) 0 ≡ e.uses
  unfolding put_entry
  entry_uses =
      let d3 : 4 * i + 2 ≢ 4 * i + 3 = omega arith in
      let l : 4 * i + 2 < length ws = omega arith in
      simp stores

  entry_tag : get_or (put_entry ws i e) (4 * i + 3) 0 ≡ 2 * 2 ^ 32 + e.rights.0
  unfolding put_entry
  entry_tag = simp stores

  pub entry_id : id_at (put_entry ws i e) i ≡ id_of e
  entry_id = ap token_id entry_token

  -- Rights are 32 bits, so they leave the kind alone.
  pub entry_kind : e.rights.0 < 2 ^ 32 → kind_at (put_entry ws i e) i ≡ 2
  entry_kind r = omega (arith, entry_tag)

  pub entry_live : e.rights.0 < 2 ^ 32 → is_live (put_entry ws i e) i ≡ true
  entry_live r = ap (λ k. eqb k 2) (entry_kind r)

  pub entry_not_empty : e.rights.0 < 2 ^ 32 → is_empty (put_entry ws i e) i ≡ false
  entry_not_empty r = ap (λ k. eqb k 0) (entry_kind r)

  pub entry_not_removed : e.rights.0 < 2 ^ 32 → is_removed (put_entry ws i e) i ≡ false
  entry_not_removed r = ap (λ k. eqb k 1) (entry_kind r)

  -- What was put is read back.
  pub entry_read : e.rights.0 < 2 ^ 32 → entry_at (put_entry ws i e) i ≡ e
  unfolding entry_at
  entry_read r =
      let rights : get_or (put_entry ws i e) (4 * i + 3) 0 % 2 ^ 32 ≡ e.rights.0 = omega (arith, entry_tag) in
      λ k.
      record { capability = record { 0 = entry_token k }; object = entry_object k; rights = record { 0 = rights k }; uses = entry_uses k }

-- ---- a slot's tag alone: the mark of a removed entry, or emptying

-- The id's word is not the tag, of whatever slot.
pub tag_id : (ws : List ℕ) (i j v : ℕ) → id_at (set ws (4 * i + 3) v) j ≡ id_at ws j
tag_id ws i j v = ap token_id (get_or-set_other ws (4 * i + 3) (4 * j) v 0 (omega arith))

pub tag_kind : (ws : List ℕ) (i v : ℕ) → 4 * i + 3 < length ws → kind_at (set ws (4 * i + 3) v) i ≡ v / 2 ^ 32
tag_kind ws i v l = ap (λ w. w / 2 ^ 32) (get_or-set_same ws (4 * i + 3) v 0 l)

pub tag_others : (ws : List ℕ) (i j v : ℕ) → j ≢ i → SameSlot ws (set ws (4 * i + 3) v) j
tag_others ws i j v d =
    record {
      token = get_or-set_other ws (4 * i + 3) (4 * j) v 0 (omega arith);
      object = get_or-set_other ws (4 * i + 3) (4 * j + 1) v 0 (omega arith);
      uses = get_or-set_other ws (4 * i + 3) (4 * j + 2) v 0 (omega arith);
      tag = get_or-set_other ws (4 * i + 3) (4 * j + 3) v 0 (omega arith);
    }

-- ---- a removed entry's mark

pub mark_length : (ws : List ℕ) (i : ℕ) → length (put_mark ws i) ≡ length ws
unfolding put_mark
mark_length ws i = length-set ws (4 * i + 3) (2 ^ 32)

pub mark_others : (ws : List ℕ) (i j : ℕ) → j ≢ i → SameSlot ws (put_mark ws i) j
unfolding put_mark
mark_others ws i j d = tag_others ws i j (2 ^ 32) d

pub mark_id : (ws : List ℕ) (i j : ℕ) → id_at (put_mark ws i) j ≡ id_at ws j
unfolding put_mark
mark_id ws i j = tag_id ws i j (2 ^ 32)

module _ (ws : List ℕ) (i : ℕ) (fits : 4 * i + 3 < length ws) where
  pub mark_kind : kind_at (put_mark ws i) i ≡ 1
  unfolding put_mark
  mark_kind = tag_kind ws i (2 ^ 32) fits

  pub mark_removed : is_removed (put_mark ws i) i ≡ true
  mark_removed = ap (λ k. eqb k 1) mark_kind

  pub mark_not_live : is_live (put_mark ws i) i ≡ false
  mark_not_live = ap (λ k. eqb k 2) mark_kind

  pub mark_not_empty : is_empty (put_mark ws i) i ≡ false
  mark_not_empty = ap (λ k. eqb k 0) mark_kind
