-- What each operation gives of its operands: one clause an operation. w is SEW, rm the rounding mode; vs2, vs1, vd and v0 are the
-- operands' elements, 0 where there is none.
use Rattle.std.specs.Prelude.{ℕ, ◌≤◌, ◌<◌, ◌^◌}
use Rattle.integer.specs.Integer.{vadd, vsub, vrsub, vwaddu, vwadd, vwsubu, vwsub, vwadd-w, vwsub-w, vzext, vsext, vadc, vsbc, vmadc, vmsbc}
use Rattle.integer.specs.Integer.{vand, vor, vxor, vsll, vsrl, vsra, vnsrl, vnsra}
use Rattle.integer.specs.Integer.{vmseq, vmsne, vmsltu, vmslt, vmsleu, vmsle, vmsgtu, vmsgt, vminu, vmin, vmaxu, vmax, vmerge, vmv}
use Rattle.integer.specs.Mask.{vmand, vmnand, vmandn, vmxor, vmor, vmnor, vmorn, vmxnor}
use Rattle.multiply.specs.Multiply.{vmul, vmulh, vmulhu, vmulhsu, vdivu, vdiv, vremu, vrem, vwmul, vwmulu, vwmulsu}
use Rattle.multiply.specs.Multiply.{vmacc, vnmsac, vmadd, vnmsub, vwmaccu, vwmacc, vwmaccsu, vwmaccus}
use Rattle.fixed.specs.declared.Element.{Element}
use Rattle.fixed.specs.declared.Vxrm.{Vxrm}
use Rattle.fixed.specs.Round.{exact}
use Rattle.fixed.specs.Fixed.{vsaddu, vsadd, vssubu, vssub, vaaddu, vaadd, vasubu, vasub, vsmul, vssrl, vssra, vnclipu, vnclip}
use Rattle.operation.specs.declared.Op.{Op}
use Rattle.operation.specs.declared.Op.TheVariants.{Vadd, Vsub, Vrsub, Vwaddu, Vwadd, Vwsubu, Vwsub, VwadduW, VwaddW, VwsubuW, VwsubW}
use Rattle.operation.specs.declared.Op.TheVariants.{VzextVf2, VsextVf2, VzextVf4, VsextVf4, VzextVf8, VsextVf8, Vadc, Vsbc, Vmadc, Vmsbc}
use Rattle.operation.specs.declared.Op.TheVariants.{Vand, Vor, Vxor, Vsll, Vsrl, Vsra, Vnsrl, Vnsra}
use Rattle.operation.specs.declared.Op.TheVariants.{Vmseq, Vmsne, Vmsltu, Vmslt, Vmsleu, Vmsle, Vmsgtu, Vmsgt, Vminu, Vmin, Vmaxu, Vmax}
use Rattle.operation.specs.declared.Op.TheVariants.{Vmul, Vmulh, Vmulhu, Vmulhsu, Vdivu, Vdiv, Vremu, Vrem, Vwmul, Vwmulu, Vwmulsu}
use Rattle.operation.specs.declared.Op.TheVariants.{Vmacc, Vnmsac, Vmadd, Vnmsub, Vwmaccu, Vwmacc, Vwmaccsu, Vwmaccus, Vmerge, Vmv}
use Rattle.operation.specs.declared.Op.TheVariants.{Vsaddu, Vsadd, Vssubu, Vssub, Vaaddu, Vaadd, Vasubu, Vasub, Vsmul}
use Rattle.operation.specs.declared.Op.TheVariants.{Vssrl, Vssra, Vnclipu, Vnclip}
use Rattle.operation.specs.declared.Op.TheVariants.{Vmand, Vmnand, Vmandn, Vmxor, Vmor, Vmnor, Vmorn, Vmxnor}
use Rattle.operation.specs.Shape.{eew_of, shape_of, largest_sew}

module _ (w : ℕ) (rm : Vxrm) (vs2 vs1 vd v0 : ℕ) where
  abbrev pub element_of : Op → Element
  -- 12.1
  element_of Vadd = exact (vadd w vs2 vs1)
  element_of Vsub = exact (vsub w vs2 vs1)
  element_of Vrsub = exact (vrsub w vs2 vs1)
  -- 12.2
  element_of Vwaddu = exact (vwaddu w vs2 vs1)
  element_of Vwadd = exact (vwadd w vs2 vs1)
  element_of Vwsubu = exact (vwsubu w vs2 vs1)
  element_of Vwsub = exact (vwsub w vs2 vs1)
  element_of VwadduW = exact (vwaddu w vs2 vs1)
  element_of VwaddW = exact (vwadd-w w vs2 vs1)
  element_of VwsubuW = exact (vwsubu w vs2 vs1)
  element_of VwsubW = exact (vwsub-w w vs2 vs1)
  -- 12.3
  element_of VzextVf2 = exact (vzext 2 w vs2)
  element_of VsextVf2 = exact (vsext 2 w vs2)
  element_of VzextVf4 = exact (vzext 4 w vs2)
  element_of VsextVf4 = exact (vsext 4 w vs2)
  element_of VzextVf8 = exact (vzext 8 w vs2)
  element_of VsextVf8 = exact (vsext 8 w vs2)
  -- 12.4
  element_of Vadc = exact (vadc w vs2 vs1 v0)
  element_of Vsbc = exact (vsbc w vs2 vs1 v0)
  element_of Vmadc = exact (vmadc w vs2 vs1 v0)
  element_of Vmsbc = exact (vmsbc w vs2 vs1 v0)
  -- 12.5
  element_of Vand = exact (vand w vs2 vs1)
  element_of Vor = exact (vor w vs2 vs1)
  element_of Vxor = exact (vxor w vs2 vs1)
  -- 12.6
  element_of Vsll = exact (vsll w vs2 vs1)
  element_of Vsrl = exact (vsrl w vs2 vs1)
  element_of Vsra = exact (vsra w vs2 vs1)
  -- 12.7
  element_of Vnsrl = exact (vnsrl w vs2 vs1)
  element_of Vnsra = exact (vnsra w vs2 vs1)
  -- 12.8
  element_of Vmseq = exact (vmseq w vs2 vs1)
  element_of Vmsne = exact (vmsne w vs2 vs1)
  element_of Vmsltu = exact (vmsltu w vs2 vs1)
  element_of Vmslt = exact (vmslt w vs2 vs1)
  element_of Vmsleu = exact (vmsleu w vs2 vs1)
  element_of Vmsle = exact (vmsle w vs2 vs1)
  element_of Vmsgtu = exact (vmsgtu w vs2 vs1)
  element_of Vmsgt = exact (vmsgt w vs2 vs1)
  -- 12.9
  element_of Vminu = exact (vminu w vs2 vs1)
  element_of Vmin = exact (vmin w vs2 vs1)
  element_of Vmaxu = exact (vmaxu w vs2 vs1)
  element_of Vmax = exact (vmax w vs2 vs1)
  -- 12.10
  element_of Vmul = exact (vmul w vs2 vs1)
  element_of Vmulh = exact (vmulh w vs2 vs1)
  element_of Vmulhu = exact (vmulhu w vs2 vs1)
  element_of Vmulhsu = exact (vmulhsu w vs2 vs1)
  -- 12.11
  element_of Vdivu = exact (vdivu w vs2 vs1)
  element_of Vdiv = exact (vdiv w vs2 vs1)
  element_of Vremu = exact (vremu w vs2 vs1)
  element_of Vrem = exact (vrem w vs2 vs1)
  -- 12.12
  element_of Vwmul = exact (vwmul w vs2 vs1)
  element_of Vwmulu = exact (vwmulu w vs2 vs1)
  element_of Vwmulsu = exact (vwmulsu w vs2 vs1)
  -- 12.13
  element_of Vmacc = exact (vmacc w vs2 vs1 vd)
  element_of Vnmsac = exact (vnmsac w vs2 vs1 vd)
  element_of Vmadd = exact (vmadd w vs2 vs1 vd)
  element_of Vnmsub = exact (vnmsub w vs2 vs1 vd)
  -- 12.14
  element_of Vwmaccu = exact (vwmaccu w vs2 vs1 vd)
  element_of Vwmacc = exact (vwmacc w vs2 vs1 vd)
  element_of Vwmaccsu = exact (vwmaccsu w vs2 vs1 vd)
  element_of Vwmaccus = exact (vwmaccus w vs2 vs1 vd)
  -- 12.15
  element_of Vmerge = exact (vmerge w vs2 vs1 v0)
  -- 12.16
  element_of Vmv = exact (vmv w vs1)
  -- 13.1
  element_of Vsaddu = vsaddu w vs2 vs1
  element_of Vsadd = vsadd w vs2 vs1
  element_of Vssubu = vssubu w vs2 vs1
  element_of Vssub = vssub w vs2 vs1
  -- 13.2
  element_of Vaaddu = exact (vaaddu rm w vs2 vs1)
  element_of Vaadd = exact (vaadd rm w vs2 vs1)
  element_of Vasubu = exact (vasubu rm w vs2 vs1)
  element_of Vasub = exact (vasub rm w vs2 vs1)
  -- 13.3
  element_of Vsmul = vsmul rm w vs2 vs1
  -- 13.4
  element_of Vssrl = exact (vssrl rm w vs2 vs1)
  element_of Vssra = exact (vssra rm w vs2 vs1)
  -- 13.5
  element_of Vnclipu = vnclipu rm w vs2 vs1
  element_of Vnclip = vnclip rm w vs2 vs1
  -- 16.1
  element_of Vmand = exact (vmand vs2 vs1)
  element_of Vmnand = exact (vmnand vs2 vs1)
  element_of Vmandn = exact (vmandn vs2 vs1)
  element_of Vmxor = exact (vmxor vs2 vs1)
  element_of Vmor = exact (vmor vs2 vs1)
  element_of Vmnor = exact (vmnor vs2 vs1)
  element_of Vmorn = exact (vmorn vs2 vs1)
  element_of Vmxnor = exact (vmxnor vs2 vs1)

-- for contracts of inner functions, not to be believed: operands that an operation can have
pub record Operands (op : Op) (w vs2 vs1 v0 : ℕ) : Type 0 where
  pub least : 8 ≤ w
  pub most : w ≤ largest_sew op
  pub vs2-fits : vs2 < 2 ^ eew_of (shape_of op).vs2 w
  pub vs1-fits : vs1 < 2 ^ eew_of (shape_of op).vs1 w
  pub v0-fits : v0 < 2
