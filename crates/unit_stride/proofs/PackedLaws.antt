-- The elements of a unit-stride access lie one beside the other: where one is inside memory, the next is its size further on.
use Prim.Native.Nat.{ℕ, ◌+◌, ◌-◌, ◌*◌, ◌%◌, ◌^◌, ◌≤◌, ◌<◌}
use mathlib.Core.Path.{◌≡◌, sym, ap, ◌∙◌}
use mathlib.Core.Bool.{true, false}
use native.Mathlib.Omega.{arith}
use native.Mathlib.Nat.{mod-eq_of_lt, mul-le-mul_right}
use lib.Dec.{T, eqb}
use borrow.Author.Tests.{leb-true, eq-eqb, le-leb, lt-leb}
use Rattle.laws.proofs.Apart.{both_right}
use Rattle.layout.specs.Layout.{byte_size}
use Rattle.layout.proofs.WidthLaws.{size-elim}
use Rattle.plan.specs.declared.Transfer.{Transfer}
use Rattle.machine.specs.Effect.{element_address}
use Rattle.unit_stride.specs.Pages.{page_tested}
use Rattle.unit_stride.specs.Tested.{Packed}

-- ---- the test of an element's page

module _ (memory a n : ℕ) where
  pub tested-inside : page_tested memory a n ≡ true → a + n ≤ memory
  tested-inside h = leb-true (a + n) memory (both_right (eqb (a % n) 0) _ h)

  pub page-tested : a % n ≡ 0 → a + n ≤ memory → page_tested memory a n ≡ true
  page-tested e l = rw (eq-eqb (a % n) 0 e, le-leb (a + n) memory l)

  pub untested-outside : a % n ≡ 0 → memory < a + n → page_tested memory a n ≡ false
  untested-outside e l = rw (eq-eqb (a % n) 0 e, lt-leb (a + n) memory l)

-- ---- addresses

pub size-most : (n : ℕ) → T (byte_size n) → n ≤ 8
size-most n t = size-elim (λ k. k ≤ 8) (omega arith) (omega arith) (omega arith) (omega arith) n t

module _ (memory : ℕ) (t : Transfer) (v n : ℕ) (g : Packed memory t v n) where
  abbrev address : ℕ → ℕ
  address i = element_address t i 0

  -- no more than 2,048 bytes
  pub few_bytes : (j : ℕ) → j ≤ 256 → j * t.bytes ≤ 2048
  few_bytes j l = omega (arith, mul-le-mul_right t.bytes l, size-most t.bytes g.size)

  pub further : (i j : ℕ) → address (i + j) ≡ (address i + j * t.bytes) % 2 ^ 64
  further i j = ap (λ (s : ℕ). (t.base + (i + j) * s + 0) % 2 ^ 64) g.stride ∙ step ∙ back
    where
      step : (t.base + (i + j) * t.bytes + 0) % 2 ^ 64 ≡ ((t.base + i * t.bytes + 0) % 2 ^ 64 + j * t.bytes) % 2 ^ 64
      step = omega arith

      back : ((t.base + i * t.bytes + 0) % 2 ^ 64 + j * t.bytes) % 2 ^ 64 ≡ (address i + j * t.bytes) % 2 ^ 64
      back = ap (λ (s : ℕ). ((t.base + i * s + 0) % 2 ^ 64 + j * t.bytes) % 2 ^ 64) (sym g.stride)

  -- an address in memory does not wrap within an access
  pub onward : (i j : ℕ) → j ≤ 256 → address i ≤ memory → address (i + j) ≡ address i + j * t.bytes
  onward i j l h = further i j ∙ mod-eq_of_lt (omega (arith, few_bytes j l, g.memory-length))

  -- the addresses of the elements after one inside memory
  pub later : (k j : ℕ) → k ≤ j → j < n → page_tested memory (address (v + k)) t.bytes ≡ true
      → address (v + j) ≡ address (v + k) + (j - k) * t.bytes
  later k j l m h =
      let e : v + k + (j - k) ≡ v + j = omega arith in
      let i : address (v + k) + t.bytes ≤ memory = tested-inside memory (address (v + k)) t.bytes h in
      ap address (sym e) ∙ onward (v + k) (j - k) (omega (arith, g.few)) (omega arith)
