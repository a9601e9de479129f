-- An accepted schedule has the charges that are made of it.
use Rattle.charges.proofs.AcceptedCharges.{chargeable, made}
use Rattle.charges.proofs.charging.charges.Goals as goal

pub charges_of-charged-requires : goal.charges_of-charged-requires
charges_of-charged-requires c = chargeable _ _ _ _ c.in-Ok.ensures

pub returns-in-Ok : goal.returns-in-Ok
returns-in-Ok c = rw c.in-Ok.is (made _ _ _ _ c.in-Ok.ensures _ c.charges_of-charged.ensures)
