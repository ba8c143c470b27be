-- What follows the word of an entry.
use Rattle.std.specs.Prelude.{ℕ, List, [], ◌∷◌, Option, Some, None, codes, bytes_eq, nat_lt, option_map, if◌then◌else◌}
use Rattle.std.specs.Option.{option_or}
use Rattle.mcs_plan_compile.specs.declared.fields.Field.{Field}
use Rattle.mcs_plan_compile.specs.declared.fields.Field.TheVariants as field

-- an address, where there are this many
abbrev pub address_if : ℕ → ℕ → Field
address_if place count = if nat_lt place count then field.Address else field.End

-- up to three addresses; and a message
abbrev pub addresses : ℕ → List Field
addresses count = field.Address ∷ address_if 1 count ∷ address_if 2 count ∷ field.End ∷ []

abbrev pub sends : ℕ → List Field
sends count = field.Address ∷ address_if 1 count ∷ address_if 2 count ∷ field.Message ∷ []

-- how many addresses an entry has that has nothing else
abbrev pub address_count : List ℕ → Option ℕ
address_count key =
    if bytes_eq key (codes "wait") then Some 1
    else if bytes_eq key (codes "nbwait") then Some 1
    else if bytes_eq key (codes "signal") then Some 1
    else if bytes_eq key (codes "suspend") then Some 1
    else if bytes_eq key (codes "resume") then Some 1
    else if bytes_eq key (codes "unbindntfn") then Some 1
    else if bytes_eq key (codes "unbind") then Some 1
    else if bytes_eq key (codes "cancel") then Some 1
    else if bytes_eq key (codes "recv") then Some 2
    else if bytes_eq key (codes "nbrecv") then Some 2
    else if bytes_eq key (codes "bindntfn") then Some 2
    else if bytes_eq key (codes "bind") then Some 2
    else None

-- how many one has that sends a message
abbrev pub send_count : List ℕ → Option ℕ
send_count key =
    if bytes_eq key (codes "send") then Some 1
    else if bytes_eq key (codes "nbsend") then Some 1
    else if bytes_eq key (codes "call") then Some 1
    else if bytes_eq key (codes "replyrecv") then Some 2
    else if bytes_eq key (codes "nbsendwait") then Some 2
    else if bytes_eq key (codes "nbsendrecv") then Some 3
    else None

-- what follows the word of one that names places, or sets a priority
abbrev pub placing : List ℕ → Option (List Field)
placing key =
    if bytes_eq key (codes "setprio") then Some (field.Address ∷ field.Address ∷ field.Priority ∷ field.End ∷ [])
    else if bytes_eq key (codes "copy") then Some (field.Place ∷ field.Place ∷ field.Rights ∷ field.End ∷ [])
    else if bytes_eq key (codes "mint") then Some (field.Place ∷ field.Place ∷ field.Rights ∷ field.Badge ∷ [])
    else if bytes_eq key (codes "move") then Some (field.Place ∷ field.Place ∷ field.End ∷ field.End ∷ [])
    else if bytes_eq key (codes "delete") then Some (field.Place ∷ field.End ∷ field.End ∷ field.End ∷ [])
    else if bytes_eq key (codes "make") then Some (field.Kind ∷ field.Place ∷ field.End ∷ field.End ∷ [])
    else None

-- what follows the word of an entry; none where the word is none
abbrev pub fields_of : List ℕ → Option (List Field)
fields_of key = option_or (option_map addresses (address_count key)) (option_or (option_map sends (send_count key)) (placing key))
