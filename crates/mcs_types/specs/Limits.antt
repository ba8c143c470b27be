-- The limits of the machine, as the code has them.
use Rattle.std.specs.Prelude.{ℕ}
use Rattle.mcs_types.specs.declared.limits.TheConstants.{OBJECTS, CNODES, CORES, BOOK_LINES, LINE_RECORDS, MESSAGE_WORDS, INLINE_WORDS, LABEL_BITS}

-- how many objects of a kind there may be at a time, but for CNodes
abbrev pub object_limit : ℕ
object_limit = OBJECTS

-- how many CNodes there may be
abbrev pub cnode_limit : ℕ
cnode_limit = CNODES

-- how many cores a boot may have
abbrev pub core_limit : ℕ
core_limit = CORES

-- how many lines a book may have, the boot's among them
abbrev pub line_limit : ℕ
line_limit = BOOK_LINES

-- how many records a line may have
abbrev pub record_limit : ℕ
record_limit = LINE_RECORDS

-- how many words a message may have
abbrev pub word_limit : ℕ
word_limit = MESSAGE_WORDS

-- how many words a message may have that takes no memory of its own
abbrev pub inline_limit : ℕ
inline_limit = INLINE_WORDS

-- how many bits the label of a message may have
abbrev pub label_bits : ℕ
label_bits = LABEL_BITS
