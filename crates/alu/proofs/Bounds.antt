-- Every result fits its width.
use Prim.Native.Nat.{ℕ, ◌<◌, ◌≤◌, ◌^◌}
use native.Mathlib.Omega.{arith}
use Rattle.width.proofs.Bounds.{bounds}
use Rattle.fixed.specs.declared.Vxrm.{Vxrm}
use Rattle.fixed.specs.Fixed.{vsaddu, vsadd, vssubu, vssub, vaaddu, vaadd, vasubu, vasub, vsmul, vssrl, vssra, vnclipu, vnclip}
use Rattle.fixed.proofs.Bounds.{clip-unsigned-lt, clip-signed-lt}
use Rattle.operation.specs.declared.Op.{Op}
use Rattle.operation.specs.declared.Op.TheVariants.{Vadd, Vsub, Vrsub, Vwaddu, Vwadd, Vwsubu, Vwsub, VwadduW, VwaddW, VwsubuW, VwsubW}
use Rattle.operation.specs.declared.Op.TheVariants.{VzextVf2, VsextVf2, VzextVf4, VsextVf4, VzextVf8, VsextVf8, Vadc, Vsbc, Vmadc, Vmsbc}
use Rattle.operation.specs.declared.Op.TheVariants.{Vand, Vor, Vxor, Vsll, Vsrl, Vsra, Vnsrl, Vnsra}
use Rattle.operation.specs.declared.Op.TheVariants.{Vmseq, Vmsne, Vmsltu, Vmslt, Vmsleu, Vmsle, Vmsgtu, Vmsgt, Vminu, Vmin, Vmaxu, Vmax}
use Rattle.operation.specs.declared.Op.TheVariants.{Vmul, Vmulh, Vmulhu, Vmulhsu, Vdivu, Vdiv, Vremu, Vrem, Vwmul, Vwmulu, Vwmulsu}
use Rattle.operation.specs.declared.Op.TheVariants.{Vmacc, Vnmsac, Vmadd, Vnmsub, Vwmaccu, Vwmacc, Vwmaccsu, Vwmaccus, Vmerge, Vmv}
use Rattle.operation.specs.declared.Op.TheVariants.{Vsaddu, Vsadd, Vssubu, Vssub, Vaaddu, Vaadd, Vasubu, Vasub, Vsmul}
use Rattle.operation.specs.declared.Op.TheVariants.{Vssrl, Vssra, Vnclipu, Vnclip}
use Rattle.operation.specs.declared.Op.TheVariants.{Vmand, Vmnand, Vmandn, Vmxor, Vmor, Vmnor, Vmorn, Vmxnor}
use Rattle.operation.specs.Shape.{eew_of, shape_of}
use Rattle.alu.specs.Element.{element_of, Operands}

some : (w : ℕ) → 8 ≤ w → 1 ≤ w
some w h = omega arith

ruleset everyBound = (bounds, clip-unsigned-lt, clip-signed-lt, some)

module _ (w : ℕ) (rm : Vxrm) (vs2 vs1 vd v0 : ℕ) where
  pub bounded : (op : Op) → Operands op w vs2 vs1 v0 → (element_of w rm vs2 vs1 vd v0 op).value < 2 ^ eew_of (shape_of op).vd w
  unfolding vsaddu vsadd vssubu vssub vaaddu vaadd vasubu vasub vsmul vssrl vssra vnclipu vnclip
  bounded Vadd h = search everyBound
  bounded Vsub h = search everyBound
  bounded Vrsub h = search everyBound
  bounded Vwaddu h = search everyBound
  bounded Vwadd h = search everyBound
  bounded Vwsubu h = search everyBound
  bounded Vwsub h = search everyBound
  bounded VwadduW h = search everyBound
  bounded VwaddW h = search everyBound
  bounded VwsubuW h = search everyBound
  bounded VwsubW h = search everyBound
  bounded VzextVf2 h = search everyBound
  bounded VsextVf2 h = search everyBound
  bounded VzextVf4 h = search everyBound
  bounded VsextVf4 h = search everyBound
  bounded VzextVf8 h = search everyBound
  bounded VsextVf8 h = search everyBound
  bounded Vadc h = search everyBound
  bounded Vsbc h = search everyBound
  bounded Vmadc h = search everyBound
  bounded Vmsbc h = search everyBound
  bounded Vand h = search everyBound
  bounded Vor h = search everyBound
  bounded Vxor h = search everyBound
  bounded Vsll h = search everyBound
  bounded Vsrl h = search everyBound
  bounded Vsra h = search everyBound
  bounded Vnsrl h = search everyBound
  bounded Vnsra h = search everyBound
  bounded Vmseq h = search everyBound
  bounded Vmsne h = search everyBound
  bounded Vmsltu h = search everyBound
  bounded Vmslt h = search everyBound
  bounded Vmsleu h = search everyBound
  bounded Vmsle h = search everyBound
  bounded Vmsgtu h = search everyBound
  bounded Vmsgt h = search everyBound
  bounded Vminu h = search everyBound
  bounded Vmin h = search everyBound
  bounded Vmaxu h = search everyBound
  bounded Vmax h = search everyBound
  bounded Vmul h = search everyBound
  bounded Vmulh h = search everyBound
  bounded Vmulhu h = search everyBound
  bounded Vmulhsu h = search everyBound
  bounded Vdivu h = search everyBound
  bounded Vdiv h = search everyBound
  bounded Vremu h = search everyBound
  bounded Vrem h = search everyBound
  bounded Vwmul h = search everyBound
  bounded Vwmulu h = search everyBound
  bounded Vwmulsu h = search everyBound
  bounded Vmacc h = search everyBound
  bounded Vnmsac h = search everyBound
  bounded Vmadd h = search everyBound
  bounded Vnmsub h = search everyBound
  bounded Vwmaccu h = search everyBound
  bounded Vwmacc h = search everyBound
  bounded Vwmaccsu h = search everyBound
  bounded Vwmaccus h = search everyBound
  bounded Vmerge h = search everyBound
  bounded Vmv h = search everyBound
  bounded Vsaddu h = search everyBound
  bounded Vsadd h = search everyBound
  bounded Vssubu h = search everyBound
  bounded Vssub h = search everyBound
  bounded Vaaddu h = search everyBound
  bounded Vaadd h = search everyBound
  bounded Vasubu h = search everyBound
  bounded Vasub h = search everyBound
  bounded Vsmul h = search everyBound
  bounded Vssrl h = search everyBound
  bounded Vssra h = search everyBound
  bounded Vnclipu h = search everyBound
  bounded Vnclip h = search everyBound
  bounded Vmand h = search everyBound
  bounded Vmnand h = search everyBound
  bounded Vmandn h = search everyBound
  bounded Vmxor h = search everyBound
  bounded Vmor h = search everyBound
  bounded Vmnor h = search everyBound
  bounded Vmorn h = search everyBound
  bounded Vmxnor h = search everyBound
