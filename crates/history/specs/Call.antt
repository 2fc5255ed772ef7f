-- Every public call on a world's memory but the look and `request_run`'s `run`, with its arguments, by what it may do: open a world, only
-- read, accept an entry, or change something else. Rights are 32 bits wide, so no caller can pass more.
use Rattle.std.specs.Prelude.{Bool, List, ℕ, ◌^◌, ◌<◌}
use Rattle.world.specs.declared.Numbers.{Numbers}

-- The calls that are lent the memory to read.
pub data Reading : Type 0 where
  space_used : (s : ℕ) → Reading
  space_quota : (s : ℕ) → Reading
  space_table_capacity : (s : ℕ) → Reading
  space_generation : (s : ℕ) → Reading
  space_stats : (s : ℕ) → Reading
  space_get_entry : (s id : ℕ) → Reading
  space_nth_entry : (s n : ℕ) → Reading
  is_valid : (token : ℕ) → Reading
  manager_stats : Reading
  get_children : (id : ℕ) (area : List ℕ) → Reading
  derivation_tree_stats : Reading
  census : (s : ℕ) → Reading
  is_revoked : (token : ℕ) → Reading
  epoch : Reading
  get_derivation_tree : (id : ℕ) (area : List ℕ) → Reading
  peek_notifications : (pid : ℕ) (area : List ℕ) → Reading
  notification_count : (pid : ℕ) → Reading
  notification_stats : Reading

-- The calls that may accept an entry into a space.
pub data Accepting : Type 0 where
  space_insert : (s token object rights : ℕ) → rights < 2 ^ 32 → Accepting
  space_copy : (target source : ℕ) → Accepting
  space_create : (s rights object : ℕ) → rights < 2 ^ 32 → Accepting
  create : (s object : ℕ) (valid : Bool) (cap_type rights : ℕ) → rights < 2 ^ 32 → Accepting
  delegate : (token source target rights : ℕ) → rights < 2 ^ 32 → Accepting

-- All other calls.
pub data Changing : Type 0 where
  space_lookup : (s token : ℕ) → Changing
  space_lookup_entry : (s token : ℕ) → Changing
  space_check_rights : (s token required : ℕ) → Changing
  space_remove : (s token : ℕ) → Changing
  space_increment_generation : (s : ℕ) → Changing
  space_clear : (s : ℕ) → Changing
  space_revoke_all : (s : ℕ) → Changing
  space_revoke : (s id : ℕ) → Changing
  alloc_cap_id : Changing
  delete : (token : ℕ) → Changing
  check : (token required s : ℕ) → Changing
  revoke : (token time : ℕ) (listed : List ℕ) → Changing
  revoke_capability : (token time : ℕ) (listed : List ℕ) → Changing
  revoke_held : (s token time : ℕ) (listed : List ℕ) → Changing
  revoke_batch : (tokens : List ℕ) (time : ℕ) (listed : List ℕ) → Changing
  notify_process : (pid id reason time : ℕ) → Changing
  drain_notifications : (pid : ℕ) (area : List ℕ) → Changing
  cleanup_process_notifications : (pid : ℕ) → Changing

pub data Call : Type 0 where
  open_world : (d : Numbers) (quotas : List ℕ) → Call
  reads : Reading → Call
  accepts : Accepting → Call
  changes : Changing → Call
