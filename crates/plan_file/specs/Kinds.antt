-- The code's kinds of items and tags of fields, and the bytes that stand for them.
use Rattle.std.specs.Prelude.{if◌then◌else◌, ℕ, Option, Some, None, eqb}
use Rattle.plan_file.specs.declared.kinds.{ItemKind.{ItemKind, TheVariants.{Opened, Used, Closed}}, Tag.{Tag, TheVariants.{Group, Use}}}

-- the kind that a byte stands for, if it stands for one
abbrev pub kind_of : ℕ → Option ItemKind
kind_of b = if eqb b 1 then Some Opened else if eqb b 2 then Some Used else if eqb b 3 then Some Closed else None

-- and the byte of a kind
abbrev pub kind_byte : ItemKind → ℕ
kind_byte Opened = 1
kind_byte Used = 2
kind_byte Closed = 3

-- the tag that a byte stands for, if it stands for one
abbrev pub tag_kind : ℕ → Option Tag
tag_kind b = if eqb b 2 then Some Use else if eqb b 1 then Some Group else None

-- and the byte of a tag
abbrev pub tag_byte : Tag → ℕ
tag_byte Group = 1
tag_byte Use = 2
