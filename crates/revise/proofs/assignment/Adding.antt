-- The columns with which R is assigned. Assumes nothing.
use mathlib.Core.Path.{◌≡◌, refl, sym, ap, ◌∙◌}
use mathlib.Core.Bool.{not}
use mathlib.Core.List.{List, ◌++◌, append-nil, map, zip_with}
use Prim.Native.Nat.{ℕ, ◌≤◌}
use native.Mathlib.Omega.{arith}
use lib.IntN.{ℤ, pos, nat_abs, ◌+ℤ◌}
use lib.ListN.{length, take, drop, replicate, length-map, drop_of_length-le, get_or-append}
use lib.Seq.{length-take-le}
use Rattle.numbers.specs.Sums.{table, atZ}
use Rattle.numbers.specs.Amounts.{Within}
use Rattle.numbers.proofs.Lists.{all_map, zip_length}
use Rattle.proration.proofs.Signs.{lengthZ}
use Rattle.point_day.specs.Limits.{USERS, LIMIT, AMOUNT}
use Rattle.point_day.specs.Day.{no_more}
use Rattle.point_day.specs.Struct.{padded}
use Rattle.point_day.proofs.Wholes.{shares_size}
use Rattle.columns.proofs.Padding.{padded_over, padded_long, padded_every, padded_within, zip_table}
use Rattle.taken.specs.Tested.{any_large}
use Rattle.revise.specs.Assigning.{Assignable, shared}

module _ {R : ℤ} {W : ℕ} {us : List ℕ} {rs ws : List ℤ} (h : Assignable R W us rs ws) where
  abbrev first : List ℤ
  first = take (length us) ws

  abbrev zs : List ℤ
  zs = shared R us ws

  pub first_long : length first ≡ length us
  first_long = length-take-le (length us) ws (omega (arith, h.few, h.column_long))

  zs_long : length zs ≡ length us
  zs_long = lengthZ R (map nat_abs first) us ∙ length-map first nat_abs ∙ first_long

  -- the shares in a column of zeros
  module _ {z e : List ℤ} (k : z ≡ replicate USERS (pos 0)) (q : e ≡ zs ++ drop (length us) z) where
    pub shares_are : e ≡ padded USERS (pos 0) zs
    shares_are = padded_over (pos 0) USERS (length us) zs zs_long k q

    pub shares_long : length e ≡ USERS
    shares_long = ap length shares_are ∙ padded_long (pos 0) USERS zs (omega (arith, zs_long, h.few))

    pub shares_small : (i : ℕ) → Within LIMIT (atZ e i)
    shares_small i = rw shares_are
        (padded_within LIMIT USERS zs
        (all_map (λ x. nat_abs x ≤ nat_abs R) _ (λ x l. omega (arith, h.amount.size)) zs
        (shares_size R (map nat_abs first) us h.apart (omega (arith, length-map first nat_abs, first_long)))) i)

    -- added to the whole amounts
    pub large_is : {b a : List ℤ} → b ≡ replicate USERS (pos 0) → a ≡ table (λ i. atZ first i +ℤ atZ e i) (length first) ++ drop (length first) b → any_large a ≡ any_large (zip_with ◌+ℤ◌ first zs)
    large_is {b} {a} k' s = ap any_large whole ∙ ap not (padded_every (pos 0) USERS (no_more AMOUNT) refl (zip_with ◌+ℤ◌ first zs))
      where
        same : length first ≡ length zs
        same = first_long ∙ sym zs_long

        sums : table (λ i. atZ first i +ℤ atZ e i) (length first) ≡ zip_with ◌+ℤ◌ first zs
        sums = zip_table first zs e same (λ i l. ap (λ t. atZ t i) q ∙ get_or-append zs (drop (length us) z) (pos 0) i (omega (arith, same)))

        whole : a ≡ padded USERS (pos 0) (zip_with ◌+ℤ◌ first zs)
        whole = padded_over (pos 0) USERS (length first) (zip_with ◌+ℤ◌ first zs) (zip_length ◌+ℤ◌ first zs same) k' (s ∙ ap (λ t. t ++ drop (length first) b) sums)

    -- added to the revisions
    pub revisions_are : (b : List ℤ) {a : List ℤ} → length b ≡ USERS → a ≡ table (λ i. atZ rs i +ℤ atZ e i) (length rs) ++ drop (length rs) b → a ≡ zip_with ◌+ℤ◌ rs (padded USERS (pos 0) zs)
    revisions_are b l s =
        s
        ∙ ap (λ t. table (λ i. atZ rs i +ℤ atZ e i) (length rs) ++ t) (drop_of_length-le b {i = length rs} (omega (arith, h.revisions_long)))
        ∙ append-nil (table (λ i. atZ rs i +ℤ atZ e i) (length rs))
        ∙ zip_table rs e e (h.revisions_long ∙ sym shares_long) (λ i m. refl)
        ∙ ap (zip_with ◌+ℤ◌ rs) shares_are
