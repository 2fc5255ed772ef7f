-- `revocation::queues::copy_notice` meets its contract: three words of the ring are its words, and they go to three places.
use Rattle.std.proofs.Common.{◌≡◌, refl, sym, ◌∙◌, append_assoc, List, [], ◌∷◌, ◌++◌, ℕ, ◌+◌, ◌*◌, ◌≤◌, arith, length, get_or, take, drop, drop-drop}
use Rattle.std.proofs.Math.Nat.{add-sub_cancel_left}
use Rattle.std.proofs.Math.Seq.{sets, sets-eq}
use Rattle.base.specs.Rest.{drop_next}
use Rattle.revocation.specs.Words.{ring_at, notice_id_at, notice_time_at, reason_at}
use Rattle.revocation.specs.Queue.{notices_from}
use Rattle.revocation.proofs.queues.copy_notice.Goals as goal

three_words : (qu : List ℕ) (k : ℕ) → k + 3 ≤ length qu
    → take 3 (drop k qu) ≡ get_or qu k 0 ∷ get_or qu (k + 1) 0 ∷ get_or qu (k + 2) 0 ∷ []
three_words qu k fits =
    let third : k + 1 + 1 ≡ k + 2 = omega arith in
    rw (drop_next qu k (omega arith), drop_next qu (k + 1) (omega arith), third, drop_next qu (k + 2) (omega arith))

notice_words : (qu : List ℕ) (i : ℕ) → notices_from qu i 1 ≡ notice_id_at qu i ∷ notice_time_at qu i ∷ reason_at qu i ∷ []
unfolding notices_from
notice_words qu i = refl

copied : (qu area : List ℕ) (i : ℕ) → 3 + 3 * ring_at qu i + 3 ≤ length qu → 3 * i + 3 ≤ length area
    → take (3 * i) area ++ (take 3 (drop (3 + 3 * ring_at qu i) qu) ++ drop 3 (drop (3 * i) area))
    ≡ sets area (3 * i) (notices_from qu i 1)
copied qu area i fits room =
    let words : List ℕ = notice_id_at qu i ∷ notice_time_at qu i ∷ reason_at qu i ∷ [] in
    rw (three_words qu (3 + 3 * ring_at qu i) fits, drop-drop 3 (3 * i) area, notice_words)
    (sym (sets-eq words area (3 * i) room ∙ append_assoc (take (3 * i) area) words (drop (3 * i + 3) area)))

pub returns : goal.returns
returns c =
    let copy = c.copy_from_slice.ensures.after in
    rw (copy, add-sub_cancel_left, add-sub_cancel_left) (copied _ _ _ (omega arith) (omega arith))
