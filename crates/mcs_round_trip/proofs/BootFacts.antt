-- What is known of the numbers and names of a line of the boot that was checked.
use Rattle.std.specs.Prelude.{◌<◌, ◌≤◌, ◌^◌, ◌≡◌, nat_lt, nat_le, ◌==◌, Bool, true, false, ◌&&◌, if◌then◌else◌, List, [], ◌∷◌, Some, refl, length, unwrap_or}
use Rattle.std.proofs.Common.{sym, ap, arith}
use Rattle.std.proofs.Math.Pow.{pow_mono}
use Rattle.std.proofs.lemmas.Bool.{eqb-true, lt-ltb, ltb-true, leb-true}
use Rattle.mcs_types.specs.declared.id.ObjId.{ObjId}
use Rattle.mcs_types.specs.declared.id.Kind.{Kind}
use Rattle.mcs_types.specs.declared.id.Kind.TheVariants as kind
use Rattle.mcs_types.specs.declared.cap.Cap.{Cap}
use Rattle.mcs_types.specs.declared.cap.Guard.{Guard}
use Rattle.mcs_types.specs.declared.record.Form.{Form}
use Rattle.mcs_types.specs.declared.record.Form.TheVariants as form
use Rattle.mcs_types.specs.declared.record.Rec.TheVariants as rec
use Rattle.mcs_types.specs.declared.boot.BootLine.{BootLine}
use Rattle.mcs_types.specs.Ids.{same, same_kind}
use Rattle.mcs_book.specs.Logs.{Log, given}
use Rattle.mcs_book.specs.Lookup.{radix_kept}
use Rattle.mcs_book.specs.Objects.{was_made, form_of}
use Rattle.mcs_book.specs.Sound.{Sound, IsFormOf}
use Rattle.mcs_book.specs.Boots.{boot_log, is_object, fits_guard, fits_kind, has_no_rights, has_no_guard}
use Rattle.mcs_types.proofs.Ids.{parts, same_kind-equal}
use Rattle.mcs_types.specs.Ranges.{IsWord}
use Rattle.mcs_text.specs.LineLaws.{IsName, HasNoRights, HasNoGuard, FitsKind}
use Rattle.mcs_phases.specs.BootLines.{serial_of, object_of}
use Rattle.mcs_round_trip.proofs.StepsAgain.{IsSerial, boot-serial}

-- ---- numbers

-- a guard that fits its size
pub guard-fits : (g : Guard) → fits_guard g ≡ true → (g.bits ≤ 63) × (g.value < 2 ^ 64)
guard-fits g h =
    let (bits, value) = parts (nat_le g.bits 63) (nat_lt g.value (2 ^ g.bits)) h in
    let few : g.bits ≤ 63 = leb-true g.bits 63 bits in
    let small : g.value < 2 ^ g.bits = ltb-true g.value (2 ^ g.bits) value in
    let bound : 2 ^ g.bits ≤ 2 ^ 63 = pow_mono few in
    (few, omega arith)

-- no rights and no badge
no-rights : (cap : Cap) → has_no_rights cap ≡ true → HasNoRights cap
no-rights cap h = let (rights, badge) = parts (cap.rights == 0) (cap.badge.0 == 0) h in (eqb-true cap.rights 0 rights, eqb-true cap.badge.0 0 badge)

-- no guard
no-guard : (cap : Cap) → has_no_guard cap ≡ true → HasNoGuard cap
no-guard cap h = let (bits, value) = parts (cap.guard.bits == 0) (cap.guard.value == 0) h in (eqb-true cap.guard.bits 0 bits, eqb-true cap.guard.value 0 value)

-- rights and a badge
badged-fits : (cap : Cap) → (nat_lt cap.rights 16 && nat_lt cap.badge.0 (2 ^ 64) && has_no_guard cap) ≡ true → (cap.rights < 16) × IsWord cap.badge.0 × HasNoGuard cap
badged-fits cap h =
    let (first, none) = parts (nat_lt cap.rights 16 && nat_lt cap.badge.0 (2 ^ 64)) (has_no_guard cap) h in
    let (rights, badge) = parts (nat_lt cap.rights 16) (nat_lt cap.badge.0 (2 ^ 64)) first in
    (ltb-true cap.rights 16 rights, ltb-true cap.badge.0 (2 ^ 64) badge, no-guard cap none)

-- neither rights, nor a badge, nor a guard
bare-fits : (cap : Cap) → (has_no_rights cap && has_no_guard cap) ≡ true → HasNoRights cap × HasNoGuard cap
bare-fits cap h = let (rights, guard) = parts (has_no_rights cap) (has_no_guard cap) h in (no-rights cap rights, no-guard cap guard)

-- a capability has what its kind carries
pub kind-fits : (k : Kind) (cap : Cap) → fits_kind k cap ≡ true → FitsKind k cap
kind-fits kind.CNode cap h =
    let (rights, guard) = parts (has_no_rights cap) (fits_guard cap.guard) h in
    let fits : (cap.guard.bits ≤ 63) × (cap.guard.value < 2 ^ 64) = guard-fits cap.guard guard in
    (no-rights cap rights, omega (arith, fits.0), fits.1)
kind-fits kind.Endpoint cap h = badged-fits cap h
kind-fits kind.Notification cap h = badged-fits cap h
kind-fits kind.Thread cap h = bare-fits cap h
kind-fits kind.Reply cap h = bare-fits cap h
kind-fits kind.Context cap h = bare-fits cap h

-- the guard and the badge of such a capability fit their types
pub record FitsTypes (cap : Cap) : Type 0 where
  pub badge : cap.badge.0 < 2 ^ 64
  pub bits : cap.guard.bits < 256
  pub value : cap.guard.value < 2 ^ 64

-- such a capability of nothing but its object
types-bare : (cap : Cap) → HasNoRights cap → HasNoGuard cap → FitsTypes cap
types-bare cap h g = record { badge = omega (arith, h.1); bits = omega (arith, g.0); value = omega (arith, g.1) }

-- such a one with rights and a badge
types-badged : (cap : Cap) → IsWord cap.badge.0 → HasNoGuard cap → FitsTypes cap
types-badged cap h g = record { badge = h; bits = omega (arith, g.0); value = omega (arith, g.1) }

-- each capability whose numbers are such as its kind carries
pub kind-types : (k : Kind) (cap : Cap) → fits_kind k cap ≡ true → FitsTypes cap
kind-types kind.CNode cap h =
    let (rights, guard) = parts (has_no_rights cap) (fits_guard cap.guard) h in
    let none : HasNoRights cap = no-rights cap rights in
    let fits : (cap.guard.bits ≤ 63) × (cap.guard.value < 2 ^ 64) = guard-fits cap.guard guard in
    record { badge = omega (arith, none.1); bits = omega (arith, fits.0); value = fits.1 }
kind-types kind.Endpoint cap h = let f = badged-fits cap h in types-badged cap f.1 f.2
kind-types kind.Notification cap h = let f = badged-fits cap h in types-badged cap f.1 f.2
kind-types kind.Thread cap h = let f = bare-fits cap h in types-bare cap f.0 f.1
kind-types kind.Reply cap h = let f = bare-fits cap h in types-bare cap f.0 f.1
kind-types kind.Context cap h = let f = bare-fits cap h in types-bare cap f.0 f.1

-- what an object keeps has at most 8 bits for slots
form-radix : (k : Kind) (f : Form) → IsFormOf k f → radix_kept (Some f) ≤ 8
form-radix kind.CNode (form.Slots radix) h = omega (arith, h)
form-radix k (form.Slots radix) h = absurd h
form-radix k f h = omega arith

-- so has each object of a sound log
pub radix-few : (R : Log) (c : ObjId) → Sound R → radix_kept (form_of R c) ≤ 8
radix-few [] c sound = omega arith
radix-few (rec.Made o f ∷ R) c sound = go (same c o) (radix-few R c sound.1)
  where
    go : (b : Bool) → radix_kept (form_of R c) ≤ 8 → radix_kept (unwrap_or (given b (Some f)) (form_of R c)) ≤ 8
    go true later = form-radix o.kind f sound.0.1
    go false later = later
radix-few (_ ∷ R) c sound = radix-few R c sound.1

-- ---- names

-- what is known of a name that the boot has made
pub record IsBootName (k : Kind) (o : ObjId) : Type 0 where
  pub same : o.kind ≡ k
  pub some : 0 < o.serial
  pub few : o.serial ≤ 2000000

-- an object that the boot has made
pub boot-made : (lines : List BootLine) (o : ObjId) → Sound (boot_log lines) → length lines ≤ 2000000 → was_made (boot_log lines) o ≡ true → IsBootName o.kind o
boot-made lines o sound few made = let serial : IsSerial lines o.serial = boot-serial lines o sound made in record { same = refl; some = serial.some; few = omega (arith, serial.few) }

-- an object of a kind that the boot has made
pub boot-name : (lines : List BootLine) (k : Kind) (o : ObjId) → Sound (boot_log lines) → length lines ≤ 2000000 → is_object (boot_log lines) k o ≡ true → IsBootName k o
boot-name lines k o sound few h =
    let (kinds, made) = parts (same_kind o.kind k) (was_made (boot_log lines) o) h in
    let name : IsBootName o.kind o = boot-made lines o sound few made in
    record { same = same_kind-equal o.kind k kinds; some = name.some; few = name.few }

-- it is read as a name
pub named : (k : Kind) (o : ObjId) → IsBootName k o → IsName k o
named k o h = record { same = h.same; some = h.some; word = omega (arith, h.few) }

-- the object of such a name
pub object-again : (k : Kind) (o : ObjId) → IsBootName k o → object_of k (Some o.serial) ≡ o
object-again k o h =
    let serial : serial_of (Some o.serial) ≡ o.serial = ap (λ (b : Bool). if b then o.serial else 0) (lt-ltb o.serial 4294967296 (omega (arith, h.few))) in
    λ i. record { kind = sym h.same i; serial = serial i }
