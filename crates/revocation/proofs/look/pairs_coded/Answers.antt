use Rattle.std.specs.List.{list_all}
use Rattle.std.proofs.Common.{◌≡◌, ◌∙◌, ap, List, ℕ, ◌^◌, ◌≤◌, ltb, length, take, length-take-le, get_or-take, rules}
use Rattle.std.proofs.lemmas.Iterator.{YieldsList-from_slice}
use Rattle.std.proofs.lemmas.Iterator.Search.{all_from_yields_List}
use borrow.Author.Tests.{tests}
use Rattle.base.specs.Listed.{all_listed}
use Rattle.revocation.specs.Words.{pair_at}
use Rattle.revocation.specs.Sound.{pairs_test}
use Rattle.revocation.proofs.look.pairs_coded.Goals as goal

coded : (n : ℕ) (lg : List ℕ) → n ≤ length lg → list_all (λ x. ltb x (2 ^ 56)) (take n lg) ≡ pairs_test n (pair_at lg)
coded n lg l =
    all_listed (λ x. ltb x (2 ^ 56)) (λ k. ltb (pair_at lg k) (2 ^ 56)) (take n lg) n (length-take-le n lg l)
    (λ k u. ap (λ x. ltb x (2 ^ 56)) (get_or-take n lg k 0 u))

pub returns : goal.returns
returns c =
    let tested : c.all.result ≡ list_all (λ x. ltb x (2 ^ 56)) (take c.args.n c.args.lg.now) =
    all_from_yields_List (λ x. ltb x (2 ^ 56)) _ _ c.all.result c.all.ensures.ran
    (YieldsList-from_slice _ c.iter.ensures.rest)
    (λ x b q k. search (rules, tests)) in
    tested ∙ coded _ _ c.requires
