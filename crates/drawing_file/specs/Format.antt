-- What the bytes of a drawing file say.
use Rattle.std.specs.Prelude.{◌≡◌, ℕ, ◌+◌, ◌*◌, ◌/◌, ◌%◌, if◌then◌else◌, List, [], ◌∷◌, ◌++◌, length, take, drop, Ok, Err, Result, ◌==◌, nat_lt, slice_index}
use Rattle.drawing_file.specs.Faults.{Cause, cause_of}
use Rattle.drawing_file.specs.declared.fault.FileFault.{FileFault}
use Rattle.drawing_file.specs.declared.fault.FileFault.TheVariants.{CutShort, UnknownTag, WrongLength, UnknownKind}
use Rattle.drawing_file.specs.declared.paint.PaintBytes.{PaintBytes}
use Rattle.drawing_file.specs.declared.record.Record.{Record}
use Rattle.drawing_file.specs.declared.record.Record.TheVariants.{Line, Paint}
use Rattle.drawing_file.specs.declared.record.Reading.{Reading}

-- a record, by its bytes
pub data Item : Type 0 where
  line paint : List ℕ → Item

abbrev pub item : Record → Item
item (Line b) = line b.now
item (Paint p) = paint p.bytes.now

abbrev pub read : Result Record FileFault → Result Item Cause
read (Ok r) = Ok (item r)
read (Err fault) = Err (cause_of fault)

-- places of eight bytes each
abbrev pub line_of : List ℕ → Result Item Cause
line_of b = if length b % 8 == 0 then Ok (line b) else Err (cause_of WrongLength)

-- the last byte is the kind
abbrev pub painting : List ℕ → Result Item Cause
painting b = if length b == 17 then (if nat_lt 2 (slice_index b 16) then Err (cause_of UnknownKind) else Ok (paint b)) else Err (cause_of WrongLength)

-- a paint's own bytes, of which the last says a kind
abbrev pub known_paint : List ℕ → Result Item Cause
known_paint b = if nat_lt 2 (slice_index b 16) then Err (cause_of UnknownKind) else Ok (paint b)

abbrev pub paint_read : Result PaintBytes FileFault → Result Item Cause
paint_read (Ok p) = Ok (paint p.bytes.now)
paint_read (Err fault) = Err (cause_of fault)

-- the record of a tag and its bytes
abbrev pub sorted : ℕ → List ℕ → Result Item Cause
sorted tag b = if tag == 2 then line_of b else if tag == 5 then painting b else Err (cause_of UnknownTag)

-- a first record, and the bytes after it
pub record First : Type 0 where
  pub item : Item
  pub after : List ℕ

abbrev pub followed : Result Item Cause → List ℕ → Result First Cause
followed (Ok i) after = Ok (record { item = i; after = after })
followed (Err why) after = Err why

-- the bytes behind the tag and the length n
abbrev pub body : ℕ → ℕ → List ℕ → Result First Cause
body tag n bytes = if nat_lt (length bytes) n then Err (cause_of CutShort) else followed (sorted tag (take n bytes)) (drop n bytes)

abbrev pub first_of : List ℕ → Result First Cause
first_of [] = Err (cause_of CutShort)
first_of (tag ∷ []) = Err (cause_of CutShort)
first_of (tag ∷ high ∷ []) = Err (cause_of CutShort)
first_of (tag ∷ high ∷ low ∷ bytes) = body tag (high * 256 + low) bytes

abbrev pub reading : Result Reading FileFault → Result First Cause
reading (Ok r) = Ok (record { item = item r.record; after = r.rest.now })
reading (Err fault) = Err (cause_of fault)

-- a record as it is written: its tag, its length and its bytes
abbrev pub headed : ℕ → List ℕ → List ℕ
headed tag b = tag ∷ length b / 256 ∷ length b % 256 ∷ b

abbrev pub written : Item → List ℕ
written (line b) = headed 2 b
written (paint b) = headed 5 b

-- a record that is read is written at the front, and the bytes after it follow
abbrev pub Fronts : List ℕ → Result First Cause → Type 0
Fronts bytes (Ok f) = bytes ≡ written f.item ++ f.after
Fronts bytes (Err why) = Unit {0}
