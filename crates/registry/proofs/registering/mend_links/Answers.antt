use Rattle.std.proofs.Common.{◌≡◌, ℕ, suc, ◌+◌, ◌-◌, ◌<◌, ◌≤◌, List, get_or, set, arith, rules}
use Rattle.registry.specs.Registering.{relinked, links_mended}
use Rattle.registry.proofs.registering.mend_links.Goals as goal

module _ (k at end : ℕ) (rg ys : List ℕ) (e : links_mended k at (end - at) rg ≡ ys) where
  turn : (v : ℕ) → at < end → v ≡ relinked k (get_or rg at 0) → links_mended k (at + 1) (end - (at + 1)) (set rg at v) ≡ ys
  unfolding links_mended
  turn v some h =
      let more : end - at ≡ suc (end - (at + 1)) = omega arith in
      rw h (rw more at e)

  done : end ≤ at → rg ≡ ys
  unfolding links_mended
  done none' = let nothing : end - at ≡ 0 = omega arith in rw nothing at e

ruleset laws = (rules, turn, done)

pub loop-at-preserved : goal.loop-at-preserved
loop-at-preserved c = search laws

pub returns : goal.returns
returns c = search laws
