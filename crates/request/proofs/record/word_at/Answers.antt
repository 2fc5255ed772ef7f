-- `request::record::word_at` meets its contract: the eight bytes, each by its worth, are the word that they make one after the other.
use Rattle.std.proofs.Common.{◌≡◌, ◌∙◌, List, ℕ, ◌+◌, ◌-◌, ◌<◌, ap, add_assoc, add-zero, arith, get_or, take, drop, get_or-take, get_or-drop}
use Rattle.std.specs.Int.{from_be_bytes, w64}
use Rattle.request.specs.Record.{word_from, word_at}
use Rattle.request.proofs.record.word_at.Goals as goal

module _ (bytes : List ℕ) (i : ℕ) where
  byte : (j : ℕ) → j < 8 → get_or (take (i + 8 - i) (drop i bytes)) j 0 ≡ get_or bytes (i + j) 0
  byte j l = get_or-take (i + 8 - i) (drop i bytes) j 0 (omega arith) ∙ get_or-drop i bytes j 0

  read : from_be_bytes w64 (take (i + 8 - i) (drop i bytes)) ≡ word_at bytes i
  unfolding word_from
  read =
      let first : get_or (take (i + 8 - i) (drop i bytes)) 0 0 ≡ get_or bytes i 0 = rw add-zero at (byte 0 (omega arith)) in
      simp add_assoc
      (omega (
        arith,
        first,
        byte 1 (omega arith),
        byte 2 (omega arith),
        byte 3 (omega arith),
        byte 4 (omega arith),
        byte 5 (omega arith),
        byte 6 (omega arith),
        byte 7 (omega arith),
      ))

pub returns : goal.returns
returns c = c.from_be_bytes.ensures ∙ ap (from_be_bytes w64) c.copy_from_slice.ensures.after ∙ read c.args.bytes.now c.args.i
