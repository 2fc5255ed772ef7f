-- The slot count of a rebuild: room for the live entries and one more, and again a count that a sound table may have.
use Rattle.std.proofs.Common.{◌≡◌, ℕ, ◌+◌, ◌*◌, ◌^◌, ◌≤◌, ◌<◌, arith}
use Rattle.std.proofs.Math.Decide.{dec_le}
use Rattle.std.proofs.Math.Logic.{by_cases}
use Rattle.base.specs.Arith.{next_power, next_is_power, next_le, next_least, next_mono}
use Rattle.table.specs.Insert.{slots_for, room_for}
use Rattle.table.specs.Sound.{Capacity}

-- ---- the slots for so many entries

-- M is at most 256.
pub slots_few : (entries : ℕ) → entries ≤ 256 → slots_for entries ≤ 512
slots_few entries l = omega (arith, next_least (2 * entries) 9 (omega arith))

pub slots_grow : (m n : ℕ) → m ≤ n → slots_for m ≤ slots_for n
slots_grow m n l = omega (arith, next_mono (2 * m) (2 * n) (omega arith))

slots_power : (entries : ℕ) → (k : ℕ) × (slots_for entries ≡ 2 ^ k)
slots_power entries =
    let (k, power) = next_is_power (2 * entries) in
    by_cases (dec_le (next_power (2 * entries)) 8) (λ few. (3, omega arith)) (λ many. (k, omega arith))

pub capacity_le : (most slots : ℕ) → Capacity most slots → slots ≤ slots_for most
capacity_le most slots (Capacity.no_slots e) = omega arith
capacity_le most slots (Capacity.some_slots k power least le) = le

-- ---- the slots of a rebuild

pub room_fits : (live : ℕ) → 2 * (live + 1) ≤ room_for live
unfolding room_for
room_fits live = omega (arith, next_le (2 * (live + 1)))

pub room_le : (most live : ℕ) → live < most → room_for live ≤ slots_for most
unfolding room_for
room_le most live l = slots_grow (live + 1) most (omega arith)

pub room_capacity : (most live : ℕ) → live < most → Capacity most (room_for live)
unfolding room_for
room_capacity most live l =
    let (k, power) = slots_power (live + 1) in
    Capacity.some_slots k power (omega arith) (room_le most live l)
