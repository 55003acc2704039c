-- Usage states: numbers of 16 bits, read by the usage flags (01, "Palette").
use Rattle.std.specs.Prelude.{◌&&◌}
use Rattle.model.specs.Prelude.{ℕ, Bool, not, ltb, eqb, bit_and}
use Rattle.model.specs.declared.{UsageFlags.UsageFlags}
use Rattle.std.specs.Int.Count.{ones_in}

-- exactly one of the sixteen bits is set
abbrev pub one_bit : ℕ → Bool
one_bit s = eqb (ones_in 16 s) 1

-- two states share a bit
abbrev pub meets : ℕ → ℕ → Bool
meets a b = not (eqb (bit_and a b) 0)

-- "A state is *incompatible* when it meets EXCLUSIVE and has other than one bit set."
unfoldable pub incompatible : UsageFlags → ℕ → Bool
unfolding ones_in
incompatible p s = meets s p.exclusive && not (one_bit s)

-- ---- The rule of the flags: "EXCLUSIVE (a mask), UNINITIALIZED, COMPLEX and UNKNOWN (one bit each, all different, COMPLEX and UNKNOWN
-- outside EXCLUSIVE)"

-- a state of sixteen bits with one of them set
abbrev pub is_bit : ℕ → Bool
is_bit s = one_bit s && ltb s 65536

-- the rule but that UNKNOWN is one bit
abbrev pub apart : UsageFlags → Bool
apart p =
    ltb p.exclusive 65536 && is_bit p.uninitialized && is_bit p.complex
    && not (eqb p.uninitialized p.complex) && not (eqb p.uninitialized p.unknown) && not (eqb p.complex p.unknown)
    && not (meets p.complex p.exclusive) && not (meets p.unknown p.exclusive)

-- the whole rule; where it fails, "the palette breaks its rule"
unfoldable pub flags_fit : UsageFlags → Bool
unfolding ones_in
flags_fit p = is_bit p.unknown && apart p

-- "two sets: their palettes differ"
abbrev pub same_flags : UsageFlags → UsageFlags → Bool
same_flags p q =
    eqb p.exclusive q.exclusive && eqb p.uninitialized q.uninitialized && eqb p.complex q.complex
    && eqb p.unknown q.unknown
