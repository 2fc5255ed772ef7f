-- The insert's outcome decides.
use Rattle.manager_calls.proofs.Admitting.{admits, takes_back}
use Rattle.manager_calls.proofs.admit.admit.Goals as goal

pub returns-in_default : goal.returns-in_default
returns-in_default c =
    let put = c.insert.ensures in
    takes_back _ _ _ _ _ _ _ _ _ put.mem_after _ put.value _ c.in_default.is _ c.take_back.ensures

pub returns : goal.returns
returns c =
    let put = c.insert.ensures in
    admits _ _ _ _ _ _ _ _ _ put.mem_after _ put.value _ c.in-Ok.is _ c.add.ensures
