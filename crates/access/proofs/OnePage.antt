-- An aligned element lies on one page, and is granted where each of its bytes is permitted.
use Rattle.std.proofs.Common.{◌≡◌, ℕ, ◌+◌, ◌-◌, ◌%◌, ◌<◌, ◌≤◌, Bool, T, List, get_or, refl, subst, arith, Ok}
use Rattle.layout.specs.Layout.{byte_size}
use Rattle.layout.proofs.WidthLaws.{size-elim, size-pos}
use Rattle.access.specs.Access.{needed, access_of}
use Rattle.access.specs.OnePage.{OnFirstPage, Permitted, OnePage}
use Rattle.access.proofs.AccessLaws.{facts-granted, granted-facts}

divides : (n : ℕ) → T (byte_size n) → 256 % n ≡ 0
divides = size-elim (λ k. 256 % k ≡ 0) refl refl refl refl

same-page : (a n i : ℕ) → T (byte_size n) → OnFirstPage a n i
same-page a n i =
    size-elim (λ k. OnFirstPage a k i) (λ e l. omega arith) (λ e l. omega arith) (λ e l. omega arith) (λ e l. omega arith) n

module _ (rights : List ℕ) (memory : ℕ) (store : Bool) (a n : ℕ) (t : T (byte_size n)) where
  if-permitted : a % n ≡ 0 → ((i : ℕ) → i < n → Permitted rights memory store (a + i)) → access_of rights memory store a n ≡ Ok tt
  if-permitted e f =
      let first : 0 < n = size-pos n t in
      let last : a + (n - 1) < memory = (f (n - 1) (omega (arith, first))).0 in
      facts-granted rights memory store a n
      (record {
        aligned = e;
        inside = omega arith;
        right = subst (λ (p : ℕ). needed store ≤ get_or rights p 0) (same-page a n 0 t e first) (f 0 first).1;
      })

  only-if-permitted : access_of rights memory store a n ≡ Ok tt
      → (a % n ≡ 0) × ((i : ℕ) → i < n → Permitted rights memory store (a + i))
  only-if-permitted h =
      let g = granted-facts rights memory store a n h in
      (g.aligned, λ i l. (omega (arith, g.inside), rw (same-page a n i t g.aligned l) g.right))

pub one-page : OnePage
one-page = record { divides = divides; same-page = same-page; if-permitted = if-permitted; only-if-permitted = only-if-permitted }
