-- Why a device did not answer Ok, by counts that never fall.
use Rattle.std.specs.Prelude.{◌≡◌, ◌⊎◌, ◌≤◌, ◌+◌, ◌-◌, ◌^◌, ℕ, min, Result, IsErrOf}
use Rattle.tez_ports.specs.declared.faults.ReadFault.{ReadFault}
use Rattle.tez_ports.specs.declared.faults.ReadFault.TheVariants as read
use Rattle.tez_ports.specs.declared.faults.DeviceStop.{DeviceStop}
use Rattle.tez_ports.specs.declared.faults.DeviceStop.TheVariants as device
use Rattle.tez_ports.specs.declared.faults.StoreFault.{StoreFault}
use Rattle.tez_ports.specs.declared.faults.StoreFault.TheVariants as store
use Rattle.tez_ports.specs.declared.faults.OutFailed.{OutFailed}
use Rattle.tez_ports.specs.declared.faults.OutFailed.TheVariants as out

-- a count is higher than before; at the end of u64 it stands still
abbrev pub Rose : ℕ → ℕ → Type 0
Rose before now = min (before + 1) (2 ^ 64 - 1) ≤ now

-- a read answers Failed exactly where the faults rose
pub record ReadHasCause {T : Type 0} (before now : ℕ) (result : Result T ReadFault) : Type 0 where
  pub later : before ≤ now
  pub failed : IsErrOf result read.Failed → Rose before now
  pub steady : IsErrOf result read.Failed ⊎ (now ≡ before)

-- Failed where the faults rose, Stopped where the stops rose, and no count moves at another answer
pub record DeviceHasCause {T : Type 0} (faults stops new_faults new_stops : ℕ)
    (result : Result T DeviceStop) : Type 0 where
  pub later : faults ≤ new_faults
  pub later_stops : stops ≤ new_stops
  pub failed : IsErrOf result device.Failed → Rose faults new_faults
  pub stopped : IsErrOf result device.Stopped → Rose stops new_stops
  pub steady : IsErrOf result device.Failed ⊎ (new_faults ≡ faults)
  pub steady_stops : IsErrOf result device.Stopped ⊎ (new_stops ≡ stops)

pub record StoreHasCause {T : Type 0} (faults stops new_faults new_stops : ℕ)
    (result : Result T StoreFault) : Type 0 where
  pub later : faults ≤ new_faults
  pub later_stops : stops ≤ new_stops
  pub failed : IsErrOf result store.Failed → Rose faults new_faults
  pub stopped : IsErrOf result store.Stopped → Rose stops new_stops
  pub steady : IsErrOf result store.Failed ⊎ (new_faults ≡ faults)
  pub steady_stops : IsErrOf result store.Stopped ⊎ (new_stops ≡ stops)

-- a write answers Failed exactly where the faults rose
pub record OutHasCause {T : Type 0} (before now : ℕ) (result : Result T OutFailed) : Type 0 where
  pub later : before ≤ now
  pub failed : IsErrOf result out.Failed → Rose before now
  pub steady : IsErrOf result out.Failed ⊎ (now ≡ before)
