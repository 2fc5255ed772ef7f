use Rattle.std.specs.List.{list_any}
use Rattle.std.proofs.Common.{◌≡◌, ◌∙◌, ap, List, ℕ, ◌≤◌, eqb, length, take, length-take-le, get_or-take, rules}
use Rattle.base.specs.Listed.{some_listed}
use Rattle.revocation.specs.Words.{pair_at}
use Rattle.revocation.specs.Log.{log_has}
use Rattle.revocation.proofs.log.has_pair.Goals as goal

has_listed : (n pair : ℕ) (lg : List ℕ) → n ≤ length lg → list_any (λ x. eqb x pair) (take n lg) ≡ log_has n lg pair
unfolding log_has
has_listed n pair lg l =
    some_listed (λ x. eqb x pair) (λ k. eqb (pair_at lg k) pair) (take n lg) n (length-take-le n lg l)
    (λ k u. ap (λ x. eqb x pair) (get_or-take n lg k 0 u))

pub returns : goal.returns
returns c =
    let found : c.contains.result ≡ list_any (λ x. eqb x c.args.pair) (take c.args.n c.args.lg.now) = search rules in
    found ∙ has_listed _ _ _ c.requires
