-- Elements that lie one after the other in memory, moved as one copy: each of them is moved so, and none faults.
use Rattle.std.specs.Prelude.{Ok}
use Prim.Native.Nat.{ℕ, zero, suc, ◌+◌, ◌-◌, ◌*◌, ◌/◌, ◌%◌, ◌≤◌, ◌<◌}
use mathlib.Core.Path.{◌≡◌, refl, sym, ap, subst, ◌∙◌}
use mathlib.Core.Bool.{Bool, true, false, not, cond}
use mathlib.Core.List.{List}
use native.Mathlib.Nat.{add-zero, add-suc}
use native.Mathlib.Omega.{arith}
use lib.ListN.{length, get_or, drop, length-set}
use lib.Seq.{paste, paste-suc}
use borrow.Rule.Slice.PartMut.{put_mid}
use Rattle.std.specs.List.{between}
use Rattle.std.proofs.lemmas.List.{get_or-drop, length-drop, take-take}
use Rattle.std.proofs.lemmas.List.Edits.{length-between, paste_none}
use Rattle.std.proofs.lemmas.Slice.{put_mid-paste}
use lib.Dec.{T, eqb}
use borrow.Author.Tests.{eqb-true, not-true}
use Rattle.laws.proofs.Apart.{both_left, both_right}
use Rattle.answer.specs.declared.Answer.{Answer}
use Rattle.answer.specs.declared.Answer.TheVariants.{Finished}
use Rattle.access.proofs.Reason.{reasons}
use Rattle.layout.specs.Layout.{bytes_at, with_bytes, element_at, with_element}
use Rattle.layout.proofs.BytesLaws.{Bytes}
use Rattle.layout.proofs.ElementLaws.{at-several, with-several}
use Rattle.control.specs.declared.Board.{Board}
use Rattle.control.specs.declared.Control.{Control}
use Rattle.group.specs.Group.{nfields}
use Rattle.access.specs.Access.{access_of, fields_access}
use Rattle.access.proofs.AccessLaws.{granted-facts, testing-none, testing-more, testing-done}
use Rattle.plan.specs.declared.Action.TheVariants as A
use Rattle.machine.specs.State.{Core}
use Rattle.execute.specs.Step.{core_at, Did, Ran, none, more, Attempted, done}
use Rattle.execute.proofs.StepLaws.{first-inside, moving-none, moving-more, moving-done, moved, transfers-at, acted}
use Rattle.unit_stride.proofs.PackedLaws.{onward}
use Rattle.plan.specs.declared.Read.{Read}
use Rattle.plan.specs.declared.Read.TheVariants as R
use Rattle.plan.specs.declared.Transfer.{Transfer}
use Rattle.plan.specs.declared.Elementwise.{Elementwise}
use Rattle.machine.specs.Effect.{value_of, put_all, each_field, field_write, element_address, acting_of, effect_of}
use Rattle.machine.proofs.FaultReasons.{trap_only, reason-traps}
use Rattle.unit_stride.specs.declared.Checked.{Checked}
use Rattle.unit_stride.specs.Tested.{Packed, all, Tested, none-faults, first-faults}
use Rattle.block_copy.specs.Copy.{copied, starts_at, in_order_of, AllGranted, Copyable}

-- ---- bytes

module _ (to : List ℕ) (at : ℕ) (from : List ℕ) (a : ℕ) where
  copied-pasted : (n : ℕ) → at + n ≤ length to → a + n ≤ length from → copied to at from a n ≡ paste to at (drop a from) n
  unfolding copied
  copied-pasted zero p q = paste_none to at (drop a from)
  copied-pasted (suc n) p q =
      let l : n < length (drop a from) = rw (length-drop a from) (omega arith) in
      rw (copied-pasted n (omega arith) (omega arith), ← get_or-drop a from n 0) (paste-suc to at (drop a from) n 0 (omega arith) l)

  -- the part of the one list, as the library leaves it with the part of the other
  pub part-copied : (n : ℕ) (part : List ℕ) → at + n ≤ length to → a + n ≤ length from → part ≡ between a (a + n) from
      → put_mid at (at + n - at) to part ≡ copied to at from a n
  part-copied n part p q e =
      let s : a + n - a ≡ n = omega arith in
      let k : at + n - at ≡ n = omega arith in
      let l : n ≡ length (between a (a + n) from) = rw (length-between from a (a + n) q) (sym s) in
      put_mid-paste at (at + n - at) to part (between a (a + n) from) n e (sym k) l
      ∙ rw (s, take-take n n (drop a from) (omega arith), copied-pasted n p q)

  length-copied : (n : ℕ) → length (copied to at from a n) ≡ length to
  unfolding copied
  length-copied zero = refl
  length-copied (suc n) = simp length-set (length-copied n)

  -- the bytes after the first k, as one number
  copied_more : Bytes from → (n k : ℕ)
      → copied to at from a (k + n) ≡ with_bytes (copied to at from a k) (at + k) n (bytes_at from (a + k) n)
  unfolding copied with_bytes bytes_at
  copied_more f zero k = rw add-zero
  copied_more f (suc n) k =
      let x : ℕ = get_or from (a + k) 0 in
      let y : ℕ = bytes_at from (suc (a + k)) n in
      let low : (x + 256 * y) % 256 ≡ x = omega (arith, f (a + k)) in
      let rest : (x + 256 * y) / 256 ≡ y = omega (arith, f (a + k)) in
      let next : k + suc n ≡ suc k + n = omega arith in
      ap (copied to at from a) next ∙ copied_more f n (suc k) ∙ rw (low, rest, add-suc at k, add-suc a k)

  -- element j of n bytes each
  copied-element : Bytes from → (n j : ℕ)
      → copied to at from a (suc j * n) ≡ with_bytes (copied to at from a (j * n)) (at + j * n) n (bytes_at from (a + j * n) n)
  copied-element f n j = let e : suc j * n ≡ j * n + n = omega arith in ap (copied to at from a) e ∙ copied_more f n (j * n)

-- ---- tests

-- a fault's answer is a trap
finished-never : (a : Answer) → a ≡ Finished → trap_only a ≡ true → ⊥
finished-never a e h = subst T (sym h ∙ ap trap_only e) tt

module _ (rights : List ℕ) (memory : ℕ) (t : Transfer) (v n : ℕ) where
  pub all-granted : (r : Checked) → Tested all rights memory t v n r → r.answer ≡ Finished → AllGranted rights memory t v n true
  all-granted _ (none-faults h) q = record { each = λ e. h }
  all-granted _ (first-faults k f l h e) q =
      absurd (finished-never f.answer q
      (reason-traps rights memory t.store t.bytes f (reasons.element rights memory t.store _ t.bytes f e)))

-- ---- what the tests say

pub record Ordered (e : Elementwise) (t : Transfer) : Type 0 where
  pub offset : (vlenb : ℕ) (file : List ℕ) (i : ℕ) → value_of vlenb file e.vs2 i ≡ 0
  pub unmasked : e.masked ≡ false
  pub stride : t.stride ≡ t.bytes
  pub single : e.dest.nf ≡ 0

starts : (r : Read) → starts_at r ≡ true → (vlenb : ℕ) (file : List ℕ) (i : ℕ) → value_of vlenb file r i ≡ 0
unfolding value_of
starts (R.Constant x) h vlenb file i = eqb-true x 0 h
starts (R.Element g) h vlenb file i = absurd (subst T (sym h) tt)
starts (R.Bit reg) h vlenb file i = absurd (subst T (sym h) tt)

in_order : (e : Elementwise) (t : Transfer) → in_order_of e t ≡ true → Ordered e t
in_order e t h =
    let rest = both_right (starts_at e.vs2) _ h in
    let last = both_right (not e.masked) _ rest in
    record {
      offset = starts e.vs2 (both_left (starts_at e.vs2) _ h);
      unmasked = not-true e.masked (both_left (not e.masked) _ rest);
      stride = eqb-true t.stride t.bytes (both_left (eqb t.stride t.bytes) _ last);
      single = eqb-true e.dest.nf 0 (both_right (eqb t.stride t.bytes) _ last);
    }

-- ---- elements of n bytes from index at of the registers and from index a of memory: what a copy of k bytes leaves of either

module _ (file memory : List ℕ) (at a : ℕ) where
  abbrev file_after : Bool → ℕ → List ℕ
  file_after store k = cond store file (copied file at memory a k)

  abbrev memory_after : Bool → ℕ → List ℕ
  memory_after store k = cond store (copied memory a file at k) memory

  memory-length : (store : Bool) (k : ℕ) → length (memory_after store k) ≡ length memory
  memory-length true k = length-copied memory a file at k
  memory-length false k = refl

  nothing-moved : (store : Bool) (x : List ℕ) (c : Control)
      → core_at (file_after store 0) (memory_after store 0) x c ≡ core_at file memory x c
  unfolding copied
  nothing-moved true x c = refl
  nothing-moved false x c = refl

  module _ (vlenb reg v n j : ℕ) (p : at ≡ vlenb * reg + v * n) where
    place : vlenb * reg + (v + j) * n ≡ at + j * n
    place = omega (arith, p)

    file-next : (store : Bool) → Bytes memory
        → file_after store (suc j * n)
        ≡ cond store (file_after store (j * n))
        (with_element vlenb (file_after store (j * n)) reg (8 * n) (v + j) (bytes_at (memory_after store (j * n)) (a + j * n) n))
    file-next true m = refl
    file-next false m = copied-element file at memory a m n j ∙ rw (with-several, place)

    memory-next : (store : Bool) → Bytes file
        → memory_after store (suc j * n)
        ≡ cond store
        (with_bytes (memory_after store (j * n)) (a + j * n) n (element_at vlenb (file_after store (j * n)) reg (8 * n) (v + j)))
        (memory_after store (j * n))
    memory-next true m = copied-element memory a file at m n j ∙ rw (at-several, place)
    memory-next false m = refl

-- ---- one element of one field, whose access is granted

module _ (b : Board) (rights file memory file' memory' : List ℕ) (e : Elementwise) (t : Transfer) (o : Ordered e t)
    (q : e.action ≡ A.Transfer t) (m : length memory ≤ 65536) (i a : ℕ) (p : a ≡ element_address t i 0)
    (f : access_of rights (length memory) t.store a t.bytes ≡ Ok tt)
    (r : file' ≡ cond t.store file (with_element b.vlenb file e.dest.reg e.dest.eew i (bytes_at memory a t.bytes)))
    (s : memory' ≡ cond t.store (with_bytes memory a t.bytes (element_at b.vlenb file e.dest.reg e.dest.eew i)) memory) where
  inside : a + t.bytes ≤ length memory
  inside = (granted-facts rights (length memory) t.store a t.bytes f).inside

  one_field : e.dest.nf + 1 ≤ 1
  one_field = omega (arith, o.single)

  field-granted : Ok tt ≡ fields_access rights (length memory) t.store a t.bytes 0 (nfields e.dest)
  field-granted =
      let here = testing-none rights (length memory) t.store a t.bytes e.dest.nf a 0 (record { fits = omega (arith, inside) })
      refl refl in
      testing-done rights (length memory) t.store a t.bytes e.dest.nf _ 1
      (testing-more rights (length memory) t.store a t.bytes e.dest.nf a 0 here (omega arith) (Ok tt) (sym f) tt refl) one_field

  all_moved : (x : List ℕ) (c : Control) → core_at file' memory' x c
      ≡ put_all b.vlenb (each_field (field_write b.vlenb file memory t.store e.dest t.bytes i a) 0 (nfields e.dest))
      (core_at file memory x c)
  all_moved =
      let g = e.dest in
      let n = t.bytes in
      let none = moving-none b.vlenb file memory t.store g n i a in
      let room : a + nfields g * n ≤ length memory = rw o.single (omega (arith, inside)) in
      moving-done b.vlenb file memory t.store g n i a file' memory' _ _ 1
      (moving-more b.vlenb file memory t.store g n i a file memory g.reg a 0 none (omega arith) file' memory' _ m room r s refl)
      one_field

  element-moved : (x : List ℕ) (c : Control)
      → Did b.vlenb (effect_of b rights (core_at file memory x c) e i) (core_at file memory x c) (Ok tt) (core_at file' memory' x c)
  unfolding acting_of
  element-moved x c =
      let s₀ : Core = core_at file memory x c in
      let s₁ : Core = core_at file' memory' x c in
      acted b rights s₀ e i true (rw o.unmasked) refl q
      (transfers-at b.vlenb rights s₀ s₁ t e.dest (Ok tt) a i 0 _ (sym (o.offset b.vlenb file i)) p
      (moved b.vlenb rights file memory file' memory' t.store e.dest t.bytes i a (Ok tt) field-granted x c refl all_moved))

-- ---- all elements

-- the index of element v in the registers
abbrev place_of : Board → Elementwise → Transfer → ℕ → ℕ
place_of b e t v = b.vlenb * e.dest.reg + v * t.bytes

module _ (b : Board) (size memory : ℕ) (e : Elementwise) (t : Transfer) (v n : ℕ)
    (g : Copyable b size memory e t v n) (k : true ≡ in_order_of e t) (d : n ≡ 0 → ⊥) where
  are-ordered : Ordered e t
  are-ordered = in_order e t (sym k)

  some : 1 ≤ n
  some = omega (arith, d)

  pub is-packed : Packed memory t v n
  is-packed = record {
    memory-length = g.memory-length;
    size = g.bytes some;
    stride = are-ordered.stride;
    few = g.few;
    short = g.short some;
  }

  pub file-room : place_of b e t v + n * t.bytes ≤ size
  file-room =
      let last : n - 1 < n = omega (arith, some) in
      let lies = first-inside size b.vlenb e.dest (v + (n - 1)) (g.ready (n - 1) last).dest in
      let within : 8 * (b.vlenb * e.dest.reg) + (v + (n - 1)) * (8 * t.bytes) + 8 * t.bytes ≤ 8 * size = rw (← g.eew some) lies.within in
      let all : n ≡ suc (n - 1) = omega (arith, some) in
      rw all (omega arith)

  module _ (rights : List ℕ) (a : ℕ) (p : a ≡ element_address t v 0) (y : AllGranted rights memory t v n true) where
    begins : a + t.bytes ≤ memory
    begins =
        rw p (rw (add-zero v) at (granted-facts rights memory t.store (element_address t (v + 0) 0) t.bytes (y.each refl 0 some)).inside)

    address : (j : ℕ) → j < n → a + j * t.bytes ≡ element_address t (v + j) 0
    address j l =
        rw p (sym (onward memory t v n is-packed v j (omega (arith, g.few)) (rw (← p) (omega (arith, begins)))))

    element-granted : (j : ℕ) → j < n → access_of rights memory t.store (a + j * t.bytes) t.bytes ≡ Ok tt
    element-granted j l = rw (address j l) (y.each refl j l)

    pub memory-room : a + n * t.bytes ≤ memory
    memory-room =
        let last : n - 1 < n = omega (arith, some) in
        let within : a + (n - 1) * t.bytes + t.bytes ≤ memory =
        (granted-facts rights memory t.store _ t.bytes (element-granted (n - 1) last)).inside in
        let all : n ≡ suc (n - 1) = omega (arith, some) in
        rw all (omega arith)

-- ---- the copy moves them

module _ (b : Board) (rights file memory : List ℕ) (e : Elementwise) (t : Transfer) (v n : ℕ)
    (g : Copyable b (length file) (length memory) e t v n) (k : true ≡ in_order_of e t) (d : n ≡ 0 → ⊥)
    (a : ℕ) (p : a ≡ element_address t v 0) (y : AllGranted rights (length memory) t v n true)
    (w : Bytes file) (z : Bytes memory) (x : List ℕ) (c : Control) where
  abbrev at : ℕ
  at = place_of b e t v

  abbrev after : ℕ → Core
  after j = core_at (file_after file memory at a t.store (j * t.bytes)) (memory_after file memory at a t.store (j * t.bytes)) x c

  ran : (j : ℕ) → j ≤ n → Ran b rights e v (core_at file memory x c) j (after j)
  ran zero l =
      let nil : 0 * t.bytes ≡ 0 = omega arith in
      subst (Ran b rights e v (core_at file memory x c) 0) (sym (rw nil (nothing-moved file memory at a t.store x c))) none
  ran (suc j) l =
      more j (after j) (after (suc j)) (ran j (omega arith))
      (element-moved b rights _ _ _ _ e t (are-ordered b (length file) (length memory) e t v n g k d) g.action
      (rw same g.memory-length) (v + j) (a + j * t.bytes)
      (address b (length file) (length memory) e t v n g k d rights a p y j l)
      (rw same (element-granted b (length file) (length memory) e t v n g k d rights a p y j l))
      (rw eew (file-next file memory at a b.vlenb e.dest.reg v t.bytes j refl t.store z))
      (rw eew (memory-next file memory at a b.vlenb e.dest.reg v t.bytes j refl t.store w)) x c)
    where
      same : length (memory_after file memory at a t.store (j * t.bytes)) ≡ length memory
      same = memory-length file memory at a t.store (j * t.bytes)

      eew : e.dest.eew ≡ 8 * t.bytes
      eew = g.eew (omega arith)

  pub stored : (list : List ℕ) → t.store ≡ true → list ≡ copied memory a file at (n * t.bytes)
      → Attempted b rights e v n (core_at file memory x c) true (core_at file list x c)
  stored list f q = done (core_at file list x c) (rw q (rw f at (ran n (omega arith))))

  pub loaded : (list : List ℕ) → t.store ≡ false → list ≡ copied file at memory a (n * t.bytes)
      → Attempted b rights e v n (core_at file memory x c) true (core_at list memory x c)
  loaded list f q = done (core_at list memory x c) (rw q (rw f at (ran n (omega arith))))
