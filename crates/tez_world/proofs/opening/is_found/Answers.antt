use Rattle.tez_steps.proofs.Devices.{device_fault, device_steady}
use Rattle.tez_world.proofs.opening.is_found.Goals as goal

pub returns-in-Some-clause-fault : goal.returns-in-Some-clause-fault
returns-in-Some-clause-fault g c = device_fault _ _ _ _ c.is_published.result c.is_published.ensures.cause

pub returns-in-Some-clause-steady : goal.returns-in-Some-clause-steady
returns-in-Some-clause-steady g c = device_steady _ _ _ _ c.is_published.result c.is_published.ensures.cause
