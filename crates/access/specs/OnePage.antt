-- Why the right of one page decides (document 02, A7): an aligned element lies on one page.
use Rattle.std.specs.Prelude.{◌≡◌, ℕ, ◌+◌, ◌%◌, ◌<◌, ◌≤◌, Bool, T, List, slice_index, Ok}
use Rattle.layout.specs.Layout.{byte_size}
use Rattle.access.specs.Access.{page_of, needed, access_of}

-- where the element of n bytes at address a is aligned, its byte i is on the page of its first
abbrev pub OnFirstPage : ℕ → ℕ → ℕ → Type 0
OnFirstPage a n i = a % n ≡ 0 → i < n → page_of (a + i) ≡ page_of a

-- the byte at address a is in memory, and its page has the right
abbrev pub Permitted : List ℕ → ℕ → Bool → ℕ → Type 0
Permitted rights memory store a = (a < memory) × (needed store ≤ slice_index rights (page_of a))

pub record OnePage : Type 0 where
  -- "elements are 1, 2, 4 or 8 bytes, and a page is 256": the size divides 256, so no page ends inside the element
  pub divides : (n : ℕ) → T (byte_size n) → 256 % n ≡ 0
  pub same-page : (a n i : ℕ) → T (byte_size n) → OnFirstPage a n i
  -- and so an element is granted where it is aligned and each of its bytes is permitted, and nowhere else
  pub if-permitted : (rights : List ℕ) (memory : ℕ) (store : Bool) (a n : ℕ) → T (byte_size n) → a % n ≡ 0
      → ((i : ℕ) → i < n → Permitted rights memory store (a + i)) → access_of rights memory store a n ≡ Ok tt
  pub only-if-permitted : (rights : List ℕ) (memory : ℕ) (store : Bool) (a n : ℕ) → T (byte_size n)
      → access_of rights memory store a n ≡ Ok tt
      → (a % n ≡ 0) × ((i : ℕ) → i < n → Permitted rights memory store (a + i))
