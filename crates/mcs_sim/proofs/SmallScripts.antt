-- Small scripts, computed.
use Rattle.std.proofs.Common.{◌≡◌, ℕ, Option, Some, None, List, [], refl, codes}
use Rattle.mcs_text.specs.declared.fault.LineFault.{LineFault}
use Rattle.mcs_text.specs.declared.fault.LineFault.TheVariants.{NoCores, Form, LateBoot, Number, NoObject, Taken}
use Rattle.mcs_text.specs.Keys.{boot_key, entry_key}
use Rattle.mcs_text.specs.Reading.{number, number_at, name, name_at, end_at, below, made, sent_at, replied_at, pair_at, address_at, place_at, place_of, copy_at, mint_at, move_at, kept_after, content, entry_at, step_of}
use Rattle.mcs_text.specs.RightsReading.{rights_of, rights_at}
use Rattle.mcs_text.specs.BootLines.{cap_kind, badged, guarded, cap_at, runs_at, context_at, only_number, thread_at, slot_at, bare_line, raw_line}
use Rattle.mcs_book.specs.Checks.{◌>>◌, need}
use Rattle.mcs_book.specs.Boots.{boot_log, boot_check}
use Rattle.mcs_phases.specs.BootLines.{cores_of, cap_of, fitted, with_line}
use Rattle.mcs_phases.specs.Script.{first_boot, next_boot, next_items, later_line, by_boot, spelled, read_line, script_from, script_of, steps}

computing : Unit {0}
unfolding number number_at name name_at end_at below made sent_at replied_at pair_at address_at place_at place_of copy_at mint_at move_at kept_after content entry_at step_of rights_of rights_at cap_kind badged guarded cap_at runs_at context_at only_number thread_at slot_at bare_line raw_line boot_key entry_key cores_of cap_of fitted with_line first_boot next_boot next_items later_line by_boot spelled read_line script_from script_of boot_log boot_check need ◌>>◌
computing = tt

abbrev fault_of : List ℕ → Option (ℕ × LineFault)
fault_of text = (steps text).1

empty : fault_of [] ≡ Some (1, NoCores)
unfolding computing
empty = refl

comment : fault_of (codes "#a") ≡ Some (2, NoCores)
unfolding computing
comment = refl

no_core : fault_of (codes "cores 0\n") ≡ Some (1, Number)
unfolding computing
no_core = refl

sixteen : fault_of (codes "cores 16\n") ≡ None
unfolding computing
sixteen = refl

last_core : fault_of (codes "cores 16\ncnode 4\ncontext 15\nthread 1 1 c1 60 0 run s1\n15 t1 recv 1 2") ≡ None
unfolding computing
last_core = refl

past_cores : fault_of (codes "cores 16\ncontext 16") ≡ Some (2, Number)
unfolding computing
past_cores = refl

second_cores : fault_of (codes "cores 16\ncores 17") ≡ Some (2, Number)
unfolding computing
second_cores = refl

seventeen : fault_of (codes "cores 17\n") ≡ Some (1, Number)
unfolding computing
seventeen = refl

one_core : fault_of (codes "cores 1\n") ≡ None
unfolding computing
one_core = refl

slots : fault_of (codes "#x\ncores 1\ncnode 4\nendpoint\nslot c1 3 e1 rw 9\nslot c1 3 e1 w 1\n") ≡ Some (6, Taken)
unfolding computing
slots = refl

late_name : fault_of (codes "cores 1\ncnode 4\nslot c2 300 e1 rw 9") ≡ Some (3, NoObject)
unfolding computing
late_name = refl

wide_index : fault_of (codes "cores 1\ncnode 4\nslot c1 300 e1 rw 9") ≡ Some (3, Number)
unfolding computing
wide_index = refl

no_thread : fault_of (codes "cores 1\n0 t1 recv 1 99999999999999999999999\n") ≡ Some (2, Number)
unfolding computing
no_thread = refl

cnode_slot : fault_of (codes "cores 1\ncnode 4\nslot c1 3 c1 0\n") ≡ Some (3, Form)
unfolding computing
cnode_slot = refl

wide_guard : fault_of (codes "cores 1\ncnode 4\nslot c1 3 c1 256 0\n") ≡ Some (3, Number)
unfolding computing
wide_guard = refl

small_guard : fault_of (codes "cores 1\ncnode 4\nslot c1 3 c1 2 4\n") ≡ Some (3, Number)
unfolding computing
small_guard = refl

copies : fault_of (codes "cores 1\ncnode 4\nthread 1 1 c1 60 0 run -\n0 t1 copy 1 64 2 64 rw\n0 t1 mint 1 64 2 64 - 9\n0 t1 move 2 64 3 255") ≡ None
unfolding computing
copies = refl

wide_depth : fault_of (codes "cores 1\ncnode 4\nthread 1 1 c1 60 0 run -\n0 t1 move 1 64 2 256") ≡ Some (4, Number)
unfolding computing
wide_depth = refl

no_rights : fault_of (codes "cores 1\ncnode 4\nthread 1 1 c1 60 0 run -\n0 t1 copy 1 256 2 64 wr") ≡ Some (4, Form)
unfolding computing
no_rights = refl

late_boot : fault_of (codes "cores 1\ncnode 4\nthread 1 1 c1 60 0 run -\n0 t1 recv 1 2\ntie t1 n1") ≡ Some (5, LateBoot)
unfolding computing
late_boot = refl
