-- Document 01, "Zone", and section 1.6 of PD-02: the provinces. Assumes nothing.
use Rattle.std.specs.Prelude.{true, not, List, [], ◌∷◌, ◌≡◌, refl, ℕ, ◌-◌, leb, ltb, eqb, length, get_or}
use Rattle.numbers.specs.Sums.{pick}
use Rattle.numbers.specs.Lists.{both, every}
use Rattle.numbers.specs.Refusals.{OUT_OF_RANGE}
use Rattle.calendar.specs.Answers.{Answer, given, ◌when◌, tested}
use Rattle.zones.specs.declared.Province.{Province}

-- "from hundredths of a degree day (0 to 1,000)"
abbrev pub MOST_HUNDREDTHS : ℕ
MOST_HUNDREDTHS = 1000

-- "below 170 zone 1, below 240 zone 2, to 380 zone 3, above 4"
unfoldable pub zone_of : ℕ → ℕ
zone_of v = pick (ltb v 170) 1 (pick (ltb v 240) 2 (pick (leb v 380) 3 4))

unfoldable pub zone_call : ℕ → Answer ℕ
zone_call v = tested ((OUT_OF_RANGE when not (leb v MOST_HUNDREDTHS)) ∷ []) (given (zone_of v))

-- a province's degree-day value, in hundredths, and its zone
abbrev pub ◌in_zone◌ : ℕ → ℕ → Province
v in_zone z = record { mean = v; zone = z }

infix 6 ◌in_zone◌
-- the provinces in the order of section 1.6
unfoldable pub provinces : List Province
provinces =
    (144 in_zone 1)  -- A Coruña
    ∷ (117 in_zone 1)  -- Alicante
    ∷ (56 in_zone 1)  -- Almería
    ∷ (36 in_zone 1)  -- Cádiz
    ∷ (118 in_zone 1)  -- Castellón
    ∷ (139 in_zone 1)  -- Córdoba
    ∷ (85 in_zone 1)  -- Huelva
    ∷ (117 in_zone 1)  -- Baleares
    ∷ (59 in_zone 1)  -- Málaga
    ∷ (103 in_zone 1)  -- Murcia
    ∷ (82 in_zone 1)  -- Sevilla
    ∷ (164 in_zone 1)  -- Valencia
    ∷ (182 in_zone 2)  -- Asturias
    ∷ (180 in_zone 2)  -- Badajoz
    ∷ (184 in_zone 2)  -- Barcelona
    ∷ (200 in_zone 2)  -- Bizkaia
    ∷ (220 in_zone 2)  -- Cáceres
    ∷ (178 in_zone 2)  -- Cantabria
    ∷ (215 in_zone 2)  -- Gipuzkoa
    ∷ (200 in_zone 2)  -- Jaén
    ∷ (221 in_zone 2)  -- Ourense
    ∷ (196 in_zone 2)  -- Pontevedra
    ∷ (200 in_zone 2)  -- Tarragona
    ∷ (330 in_zone 3)  -- Albacete
    ∷ (275 in_zone 3)  -- Ciudad Real
    ∷ (364 in_zone 3)  -- Cuenca
    ∷ (250 in_zone 3)  -- Girona
    ∷ (279 in_zone 3)  -- Granada
    ∷ (352 in_zone 3)  -- Huesca
    ∷ (314 in_zone 3)  -- La Rioja
    ∷ (295 in_zone 3)  -- Lleida
    ∷ (360 in_zone 3)  -- Lugo
    ∷ (318 in_zone 3)  -- Madrid
    ∷ (352 in_zone 3)  -- Navarra
    ∷ (267 in_zone 3)  -- Toledo
    ∷ (264 in_zone 3)  -- Zaragoza
    ∷ (402 in_zone 4)  -- Araba
    ∷ (474 in_zone 4)  -- Ávila
    ∷ (506 in_zone 4)  -- Burgos
    ∷ (523 in_zone 4)  -- Guadalajara
    ∷ (492 in_zone 4)  -- León
    ∷ (517 in_zone 4)  -- Palencia
    ∷ (423 in_zone 4)  -- Salamanca
    ∷ (427 in_zone 4)  -- Segovia
    ∷ (525 in_zone 4)  -- Soria
    ∷ (431 in_zone 4)  -- Teruel
    ∷ (405 in_zone 4)  -- Valladolid
    ∷ (414 in_zone 4)  -- Zamora
    ∷ []

abbrev pub PROVINCES : ℕ
PROVINCES = 48

pub counted : length provinces ≡ PROVINCES
unfolding provinces
counted = refl

-- the zone rule, computed over the whole table
pub zone_rule : every (λ p. eqb p.zone (zone_of p.mean)) provinces ≡ true
unfolding every provinces zone_of
zone_rule = refl

-- "numbered from 1"
unfoldable pub province_call : ℕ → Answer Province
province_call n =
    tested ((OUT_OF_RANGE when not (both (leb 1 n) (leb n PROVINCES))) ∷ [])
    (given (get_or provinces (n - 1) (0 in_zone 0)))
