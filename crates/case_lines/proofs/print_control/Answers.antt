use Rattle.std.proofs.Common.{◌≡◌, ℕ, ◌≤◌, List, length, take, drop, arith, ◌∙◌, zero-add}
use Rattle.std.proofs.Math.Seq.{take-append_seam}
use Rattle.text.specs.Text.{Wrote}
use Rattle.text.proofs.TextLaws.{over-whole}
use Rattle.case_lines.specs.Lines.{control_text}
use Rattle.case_lines.proofs.print_control.Goals as goal

-- a text written to the front of a buffer with room for it stands there
front : (o t o1 : List ℕ) (n : ℕ) → Wrote o 0 t o1 n → n ≤ length o → take n o1 ≡ t
front o t o1 n w h =
    rw (w.bytes ∙ over-whole o t (omega (arith, w.ends, h)), w.ends, zero-add (length t)) (take-append_seam t (drop (length t) o))

pub returns : goal.returns
returns g c =
    let e : take c.control_text-end.result c.control_text-end.new.out ≡ control_text c.args.control
    = front _ _ _ _ c.control_text-end.ensures.0 (c.control_text-end.ensures.1)
    in rw (← e) c.write_all.ensures.bytes
