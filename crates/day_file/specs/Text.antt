-- Document 01, section "Day file and inventory": what program `dayreport` prints. Assumes nothing.
use Rattle.std.specs.Prelude.{List, [], ◌∷◌, ◌++◌, map, ℕ, ℤ, pos}
use Rattle.numbers.specs.Sums.{total, totalZ}
use Rattle.numbers.specs.Lists.{flat}
use Rattle.point_day.specs.Day.{User, Day, net, whole}
use Rattle.wire.specs.Text.{decimal}
use Rattle.day_file.specs.Report.{Report, refused, allotted}

-- ---- a line: a word and numbers, each after a space, and a line feed

abbrev pub SPACE : ℕ
SPACE = 32

abbrev pub LINE_FEED : ℕ
LINE_FEED = 10

unfoldable pub spaced : List ℤ → List ℕ
spaced [] = []
spaced (z ∷ zs) = (SPACE ∷ decimal z) ++ spaced zs

abbrev pub text_line : List ℕ → List ℤ → List ℕ
text_line word zs = word ++ (spaced zs ++ (LINE_FEED ∷ []))

-- the words `refused`, `point`, `user`
abbrev pub refused_word : List ℕ
refused_word = 114 ∷ 101 ∷ 102 ∷ 117 ∷ 115 ∷ 101 ∷ 100 ∷ []

abbrev pub point_word : List ℕ
point_word = 112 ∷ 111 ∷ 105 ∷ 110 ∷ 116 ∷ []

abbrev pub user_word : List ℕ
user_word = 117 ∷ 115 ∷ 101 ∷ 114 ∷ []

-- ---- the figures

abbrev pub consumption : User → ℤ
consumption u = pos (total u.consumption)

abbrev pub losses : User → ℤ
losses u = pos (total u.losses)

abbrev pub balance : User → ℤ
balance u = totalZ u.balance

-- "`point` with day, net, consumption, losses, balance"
abbrev pub point_line : ℕ → Day → List ℕ
point_line day d =
    text_line point_word
    (pos day ∷ net d ∷ totalZ (map consumption d.users) ∷ totalZ (map losses d.users) ∷ totalZ (map balance d.users) ∷ [])

-- "`user` with number, consumption, losses, balance, whole amount"
abbrev pub user_line : User → List ℕ
user_line u = text_line user_word (pos u.number ∷ consumption u ∷ losses u ∷ balance u ∷ whole u ∷ [])

-- "prints `refused` and the number, or `point` .., then per user in file order `user` .."
unfoldable pub text : Report → List ℕ
text (refused n) = text_line refused_word (pos n ∷ [])
text (allotted day d) = point_line day d ++ flat (map user_line d.users)
