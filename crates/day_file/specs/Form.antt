-- Document 01, section "Day file and inventory": what a day file is. Assumes nothing.
use Rattle.std.specs.Prelude.{Bool, true, List, [], ◌∷◌, ℕ, ◌+◌, ◌-◌, ◌*◌, ◌/◌, ◌%◌, leb, eqb, length}
use Rattle.numbers.specs.Sums.{table, at}
use Rattle.numbers.specs.Lists.{both, either, every}
use Rattle.wire.specs.Bytes.{little_endian}
use Rattle.day_file.specs.declared.Header.{Header}
use Rattle.day_file.specs.declared.Section.{Section}

-- "At most 65,536 bytes"
abbrev pub MOST_BYTES : ℕ
MOST_BYTES = 65536

-- ---- "little-endian"

abbrev pub u8 : List ℕ → ℕ → ℕ
u8 f i = little_endian 1 f i

abbrev pub u16 : List ℕ → ℕ → ℕ
u16 f i = little_endian 2 f i

abbrev pub u32 : List ℕ → ℕ → ℕ
u32 f i = little_endian 4 f i

-- ---- "The four bytes `REP1`; u32 gas day; u32 emission; u32 downstream; u16 P"

abbrev pub has_mark : List ℕ → Bool
has_mark f = both (eqb (at f 0) 82) (both (eqb (at f 1) 69) (both (eqb (at f 2) 80) (eqb (at f 3) 49)))

abbrev pub gas_day : List ℕ → ℕ
gas_day f = u32 f 4

abbrev pub emission : List ℕ → ℕ
emission f = u32 f 8

abbrev pub downstream : List ℕ → ℕ
downstream f = u32 f 12

abbrev pub pair_count : List ℕ → ℕ
pair_count f = u16 f 16

abbrev pub HEADER : ℕ
HEADER = 18

-- where the pairs begin
abbrev pub pairs_start : List ℕ → ℕ
pairs_start f = HEADER

abbrev pub header_of : List ℕ → Header
header_of f = record {
  day = gas_day f;
  emission = emission f;
  downstream = downstream f;
  sections = pair_count f;
  pairs = pairs_start f;
}

-- ---- "P pairs of u32 offset and u32 length"

abbrev pub PAIR : ℕ
PAIR = 8

-- pair i of pairs that begin at a place
abbrev pub section_from : List ℕ → ℕ → ℕ → Section
section_from f start i = record { offset = u32 f (start + PAIR * i); size = u32 f (start + PAIR * i + 4) }

abbrev pub section_at : List ℕ → ℕ → Section
section_at f i = section_from f (pairs_start f) i

abbrev pub sections : List ℕ → List Section
sections f = table (section_at f) (pair_count f)

-- where header and pairs end
abbrev pub pairs_end : List ℕ → ℕ
pairs_end f = pairs_start f + PAIR * pair_count f

-- where a section ends
abbrev pub end_of : Section → ℕ
end_of s = s.offset + s.size

-- ---- "A section is u16 user, then any number of lines of u8 kind, u32 consumption, u16 coefficient"

abbrev pub USER : ℕ
USER = 2

abbrev pub LINE : ℕ
LINE = 7

-- how many lines a section of this size has, and whether it is whole
abbrev pub line_count : Section → ℕ
line_count s = (s.size - USER) / LINE

abbrev pub is_whole : Section → Bool
is_whole s = both (leb USER s.size) (eqb ((s.size - USER) % LINE) 0)

-- ---- "Pairs give whole sections, are sorted by offset, overlap neither each other nor the header and pairs, and end inside the file"

unfoldable pub sorted : List Section → Bool
sorted [] = true
sorted (s ∷ []) = true
sorted (s ∷ (t ∷ ss)) = both (leb s.offset t.offset) (sorted (t ∷ ss))

-- two sections share no byte
abbrev pub are_apart : Section → Section → Bool
are_apart s t = either (leb (end_of s) t.offset) (leb (end_of t) s.offset)

unfoldable pub none_overlap : List Section → Bool
none_overlap [] = true
none_overlap (s ∷ ss) = both (every (are_apart s) ss) (none_overlap ss)

abbrev pub after_pairs : List ℕ → Section → Bool
after_pairs f s = leb (pairs_end f) s.offset

abbrev pub inside : List ℕ → Section → Bool
inside f s = leb (end_of s) (length f)

unfoldable pub sections_right : List ℕ → List Section → Bool
sections_right f ss =
    both (every is_whole ss)
    (both (sorted ss) (both (none_overlap ss) (both (every (after_pairs f) ss) (every (inside f) ss))))

-- "Anything else is 13": a well-formed file
unfoldable pub well_formed : List ℕ → Bool
well_formed f =
    both (leb (length f) MOST_BYTES)
    (both (leb HEADER (length f))
    (both (has_mark f) (both (leb (pairs_end f) (length f)) (sections_right f (sections f)))))
