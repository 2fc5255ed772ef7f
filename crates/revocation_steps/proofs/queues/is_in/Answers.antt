-- `queues::is_in` meets its contract: a list that contains the pid is one that the pid is in.
use Rattle.std.proofs.Common.{Bool, true, false, ◌||◌, ◌≡◌, refl, ◌∙◌, List, [], ◌∷◌, ℕ, ap, eqb, drop}
use Rattle.std.proofs.lemmas.List.{take_rest}
use Rattle.std.specs.List.{list_any}
use Rattle.base.specs.Choose.{pick}
use Rattle.base.specs.Exactly.{eqb_swap}
use Rattle.revocation_steps.specs.Revocation.{is_in}
use Rattle.revocation_steps.proofs.queues.is_in.Goals as goal

either : (a b : Bool) → (a || b) ≡ pick a true b
either true b = refl
either false b = refl

contained : (pid : ℕ) (xs : List ℕ) → list_any (λ x. eqb x pid) xs ≡ is_in pid xs
contained pid [] = refl
contained pid (x ∷ xs) = rw (contained pid xs, eqb_swap x pid) (either (eqb pid x) (is_in pid xs))

pub returns : goal.returns
returns c =
    c.contains.ensures.value ∙ ap (list_any (λ x. eqb x c.args.pid)) (take_rest c.args.listed.now c.args.j)
    ∙ contained c.args.pid (drop c.args.j c.args.listed.now)
