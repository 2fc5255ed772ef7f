use Rattle.std.specs.List.{position}
use Rattle.std.specs.Option.{unwrap_or}
use Rattle.std.proofs.Common.{◌≡◌, ◌∙◌, ap, ℕ, ◌+◌, ◌-◌, ◌*◌, ◌≤◌, ltb, List, length, take, drop, arith, rules}
use Rattle.std.proofs.lemmas.Iterator.{YieldsList-from_slice}
use Rattle.std.proofs.lemmas.Iterator.Search.{position_from_yields_List}
use borrow.Author.Tests.{tests}
use Rattle.base.specs.FirstLaws.{first-le}
use Rattle.base.specs.Part.{length_part, get_d_part}
use Rattle.registry.specs.Words.{recycled_at}
use Rattle.registry.specs.Ids.{join_place}
use Rattle.base.specs.Listed.{first_listed}
use Rattle.registry.proofs.ids.join_place.Goals as goal

module _ (places m id : ℕ) (rg : List ℕ) where
  abbrev recycled : List ℕ
  recycled = take (4 * places + m - 4 * places) (drop (4 * places) rg)

  place_is : 4 * places + m ≤ length rg → unwrap_or (position (ltb id) recycled) m ≡ join_place places m id rg
  place_is l =
      let width : 4 * places + m - 4 * places ≡ m = omega arith in
      rw width
      (first_listed (ltb id) (λ j. ltb id (recycled_at places rg j)) (take m (drop (4 * places) rg)) m (length_part (4 * places) m rg l)
      (λ j u. ap (ltb id) (get_d_part (4 * places) m rg j 0 u)))

  place_few : join_place places m id rg ≤ m
  place_few = first-le (λ j. ltb id (recycled_at places rg j)) m

pub returns : goal.returns
returns c =
    let found : c.position.result ≡ position (ltb c.args.id) (recycled c.args.places c.args.m c.args.id c.args.rg.now) =
    position_from_yields_List (ltb c.args.id) _ _ c.position.result c.position.ensures.ran
    (YieldsList-from_slice _ c.iter.ensures.rest)
    (λ x b q k. search (rules, tests)) in
    let is : c.unwrap_or.result ≡ join_place c.args.places c.args.m c.args.id c.args.rg.now =
    c.unwrap_or.ensures ∙ ap (λ o. unwrap_or o c.args.m) found ∙ place_is _ _ _ _ (omega arith) in
    (is, omega (arith, place_few c.args.places c.args.m c.args.id c.args.rg.now))
