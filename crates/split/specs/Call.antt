-- The call for programs in other languages, `split`: what it answers, and what it leaves in the lent buffer. Assumes nothing.
use Rattle.std.specs.Prelude.{◌≡◌, ℕ, Bool, true, false, leb, List, [], ◌∷◌, ◌++◌, length, drop, ℤ, pos, neg_ℤ, ◌==◌, nat_le, nat_lt, unsigned_abs, refl}
use Rattle.numbers.specs.Sums.{pick}
use Rattle.numbers.specs.Lists.{both, every, has, distinct}
use Rattle.proration.specs.Proration.{PARTIES, LARGEST_AMOUNT, LARGEST_WEIGHT, prorateZ}

-- an amount, 1 to 366 weights, and a key for each of them, no two alike, within the limits of any split in document 01
unfoldable pub in_range : ℤ → List ℕ → List ℕ → Bool
in_range z ws ks =
    both (nat_le (unsigned_abs z) LARGEST_AMOUNT)
    (both (nat_lt 0 (length ws))
    (both (nat_le (length ws) PARTIES)
    (both (length ws == length ks) (both (every (λ w. leb w LARGEST_WEIGHT) ws) (distinct ks)))))

-- the number of a refusal in document 01, section "Refusals": 2, out of range; 14, a lent buffer with less than one number a party;
-- or 0, not refused
unfoldable pub answer : ℤ → List ℕ → List ℕ → List ℤ → ℕ
answer z ws ks out = pick (in_range z ws ks) (pick (nat_lt (length out) (length ws)) 14 0) 2

-- the lent buffer afterwards: the shares, and later numbers stay; "a refused call changes nothing"
unfoldable pub after : ℤ → List ℕ → List ℕ → List ℤ → List ℤ
after z ws ks out = pick (answer z ws ks out == 0) (prorateZ z ws ks ++ drop (length ws) out) out

-- the limits
most : in_range (neg_ℤ (pos 1000000000)) (2000000000 ∷ []) (7 ∷ []) ≡ true
unfolding in_range every has distinct
most = refl

over : in_range (pos 1000000001) (1 ∷ []) (7 ∷ []) ≡ false
unfolding in_range every has distinct
over = refl

-- as many keys as weights, no two alike: nobody is given more than there is
one_key_twice : answer (pos 1) (1 ∷ 1 ∷ []) (7 ∷ 7 ∷ []) (pos 0 ∷ pos 0 ∷ []) ≡ 2
unfolding answer in_range every has distinct
one_key_twice = refl

a_key_too_many : answer (pos 1) (1 ∷ []) (7 ∷ 8 ∷ []) (pos 0 ∷ []) ≡ 2
unfolding answer in_range every has distinct
a_key_too_many = refl

no_key : answer (pos 10) (1 ∷ 1 ∷ []) (7 ∷ []) [] ≡ 2
unfolding answer in_range every has distinct
no_key = refl

short : answer (pos 10) (1 ∷ 1 ∷ []) (7 ∷ 8 ∷ []) (pos 5 ∷ []) ≡ 14
unfolding answer in_range every has distinct
short = refl
