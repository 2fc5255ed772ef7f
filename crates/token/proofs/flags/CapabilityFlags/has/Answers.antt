-- `CapabilityFlags::has` meets its contract: a mask of one bit leaves 0 exactly where that bit is not 1.
use Rattle.std.proofs.Common.{ℕ, ◌*◌, ◌^◌, not, ◌≡◌, ap, zero-mul, arith, eq-eqb, ne_eqb, bit_and, eqb, pow_pos}
use Rattle.token.specs.Bits.{bit}
use Rattle.token.specs.BitsLaws.{of_bit, and_one}
use Rattle.token.specs.Flags.{bit_of}
use Rattle.token.proofs.flags.CapabilityFlags.has.Goals as goal

masked : (flags i : ℕ) → not (eqb (bit_and flags (2 ^ i)) 0) ≡ eqb (bit flags i) 1
masked flags i =
    rw (and_one flags i)
    (of_bit (λ b. not (eqb (b * 2 ^ i) 0) ≡ eqb b 1)
    (ap not (eq-eqb (0 * 2 ^ i) 0 (zero-mul (2 ^ i))))
    (ap not (ne_eqb (1 * 2 ^ i) 0 (omega (arith, pow_pos i))))
    flags i)

pub returns : goal.returns
returns c = rw c.from.ensures (masked c.args.flags (bit_of c.args.perm))
