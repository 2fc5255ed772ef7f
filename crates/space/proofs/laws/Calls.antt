-- Whatever the call, a sound space is kept sound, and its quota never changes.
use Rattle.std.proofs.Common.{◌≡◌, ℕ, ◌^◌, ◌<◌, List, refl, ap, Option, None, Some}
use Rattle.table.specs.declared.CapabilityEntry.{CapabilityEntry}
use Rattle.space.specs.Words.{quota_of}
use Rattle.space.specs.Sound.{SpaceOf}
use Rattle.space.specs.Lookup.{exactly, counted_at, counted}
use Rattle.space.specs.Change.{insert_out, removed_found, removed_token, cleared, next_generation}
use Rattle.space.specs.Copy.{copied_space}
use Rattle.space.proofs.laws.Insert.{insert_by_cases}
use Rattle.space.proofs.laws.Kept.{fits, lookup_keeps, insert_keeps, remove_keeps, clear_keeps, next_keeps, copy_keeps}
use Rattle.space.proofs.laws.View.{View, view_hit, view_miss, view_inserted, view_removed, view_cleared, view_next, view_copied}

-- A call. Rights are 32 bits. The source of a copy is any sound space, so also the target itself.
pub data Call (most : ℕ) : Type 0 where
  lookup : (token : ℕ) → Call most
  insert : (e : CapabilityEntry) → e.rights.0 < 2 ^ 32 → Call most
  remove : (token : ℕ) → Call most
  clear : Call most
  next : Call most
  copy : (source : List ℕ) → SpaceOf most source → Call most

-- The space after it.
unfoldable pub after : {most : ℕ} → Call most → List ℕ → List ℕ
after {most} (lookup token) sp = counted sp token
after {most} (insert e rights) sp = (insert_out sp e).words
after {most} (remove token) sp = removed_token sp token
after {most} clear sp = cleared sp
after {most} next sp = next_generation sp
after {most} (copy source s) sp = copied_space source sp

module _ (most : ℕ) (sp : List ℕ) (s : SpaceOf most sp) where
  pub call_keeps : (call : Call most) → SpaceOf most (after call sp)
  unfolding after
  call_keeps (lookup token) = lookup_keeps most sp s token
  call_keeps (insert e rights) = insert_keeps most sp s e rights
  call_keeps (remove token) = remove_keeps most sp s token
  call_keeps clear = clear_keeps most sp s
  call_keeps next = next_keeps most sp s
  call_keeps (copy source t) = copy_keeps most source sp t s

  pub quota_never_changes : (call : Call most) → quota_of (after call sp) ≡ quota_of sp
  unfolding after counted removed_token
  quota_never_changes (lookup token) = go (exactly sp token)
    where
      go : (f : Option ℕ) → quota_of (counted_at sp f) ≡ quota_of sp
      go (Some i) = ap (λ (v : View). v.quota) (view_hit sp (fits most sp s) i)
      go None = ap (λ (v : View). v.quota) (view_miss sp (fits most sp s))
  quota_never_changes (insert e rights) =
      insert_by_cases sp e (λ o. quota_of o.words ≡ quota_of sp) (λ over. refl) (λ i under there. refl)
      (λ a. ap (λ (v : View). v.quota) (view_inserted sp (fits most sp s) e))
  quota_never_changes (remove token) = go (exactly sp token)
    where
      go : (f : Option ℕ) → quota_of (removed_found sp f) ≡ quota_of sp
      go (Some i) = ap (λ (v : View). v.quota) (view_removed sp (fits most sp s) i)
      go None = refl
  quota_never_changes clear = ap (λ (v : View). v.quota) (view_cleared sp (fits most sp s))
  quota_never_changes next = ap (λ (v : View). v.quota) (view_next sp (fits most sp s))
  quota_never_changes (copy source t) = ap (λ (v : View). v.quota) (view_copied source sp (fits most sp s))
