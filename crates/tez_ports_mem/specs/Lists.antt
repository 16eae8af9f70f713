-- Which calls of a device in memory are to fail or to be stopped, numbered from 1.
use Rattle.std.specs.Prelude.{ℕ, List}
use Rattle.tez_ports_mem.specs.declared.disk.MemDisk.{MemDisk}
use Rattle.tez_ports_mem.specs.declared.sure_disk.SureDisk.{SureDisk}
use Rattle.tez_ports_mem.specs.declared.picker.Picker.{Picker}
use Rattle.tez_ports_mem.specs.declared.files.MemFiles.{MemFiles}
use Rattle.tez_ports_mem.specs.declared.out.MemOut.{MemOut}
use Rattle.tez_ports_mem.specs.declared.store.MemStore.{MemStore}

-- the reads that fail, and how many there were
abbrev pub failing_reads : MemFiles → List ℕ
failing_reads files = files.calls.fail.items

abbrev pub reads_so_far : MemFiles → ℕ
reads_so_far files = files.calls.count

-- the writes that fail, and how many there were
abbrev pub failing_writes : MemOut → List ℕ
failing_writes out = out.calls.fail.items

abbrev pub writes_so_far : MemOut → ℕ
writes_so_far out = out.calls.count

-- the calls that fail, those that are stopped, and how many there were
abbrev pub failing_calls : MemStore → List ℕ
failing_calls store = store.calls.fail.items

abbrev pub stopped_calls : MemStore → List ℕ
stopped_calls store = store.calls.stop.items

abbrev pub calls_so_far : MemStore → ℕ
calls_so_far store = store.calls.count

-- the calls of a disk that fail, those that are stopped, how many there were, and what a cut of the power leaves
abbrev pub failing_disk_calls : MemDisk → List ℕ
failing_disk_calls disk = disk.calls.fail.items

abbrev pub stopped_disk_calls : MemDisk → List ℕ
stopped_disk_calls disk = disk.calls.stop.items

abbrev pub disk_calls_so_far : MemDisk → ℕ
disk_calls_so_far disk = disk.calls.count

abbrev pub picker_of : MemDisk → Picker
picker_of disk = disk.pick

abbrev pub sure_picker_of : SureDisk → Picker
sure_picker_of disk = disk.pick
