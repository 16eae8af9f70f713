-- Why a call of a device ends so.
--     device_fault        a call that did not answer Ok failed or was stopped
--     device_steady       one that answered Ok moved no count
use Rattle.std.specs.Prelude.{◌≡◌, ◌⊎◌, ℕ, Result, Ok, Err, OnOk, OnErr, IsErrOf, refl}
use Rattle.std.proofs.Common.{inl, inr}
use Rattle.tez_ports.specs.Causes.{Rose, DeviceHasCause}
use Rattle.tez_ports.specs.declared.faults.DeviceStop.{DeviceStop}
use Rattle.tez_ports.specs.declared.faults.DeviceStop.TheVariants.{Failed, Stopped}

other : {T B : Type 0} (x : T) (e : DeviceStop) → IsErrOf {T = T} {E = DeviceStop} (Ok x) e ⊎ B → B
other x e (inl k) = cc
other x e (inr b) = b

pub device_fault : {T : Type 0} (faults stops new_faults new_stops : ℕ) (r : Result T DeviceStop) → DeviceHasCause faults stops new_faults new_stops r → OnErr r (Rose faults new_faults ⊎ Rose stops new_stops)
device_fault faults stops new_faults new_stops (Ok x) h = tt
device_fault faults stops new_faults new_stops (Err Failed) h = inl (h.failed refl)
device_fault faults stops new_faults new_stops (Err Stopped) h = inr (h.stopped refl)

pub device_steady : {T : Type 0} (faults stops new_faults new_stops : ℕ) (r : Result T DeviceStop) → DeviceHasCause faults stops new_faults new_stops r → OnOk r ((new_faults ≡ faults) × (new_stops ≡ stops))
device_steady faults stops new_faults new_stops (Ok x) h = (other x Failed h.steady, other x Stopped h.steady_stops)
device_steady faults stops new_faults new_stops (Err e) h = tt
