use Rattle.ff_xdr.proofs.Named.{named_right}
use Rattle.ff_xdr.proofs.CutForms.{short_just_where}
use Rattle.ff_xdr.proofs.TextGoesOn.{beginning_right}
use Rattle.ff_xdr.proofs.ArmFaults.{arm_named_right, arm_short_just_where}
use Rattle.ff_xdr.proofs.NotBuilt.{unbuilt_right}
use Rattle.ff_xdr.proofs.refusal_laws.every_refusal.Goals as goal

pub returns-clause-named : goal.returns-clause-named
returns-clause-named c = named_right

pub returns-clause-short : goal.returns-clause-short
returns-clause-short c = short_just_where

pub returns-clause-begins : goal.returns-clause-begins
returns-clause-begins c = beginning_right

pub returns-clause-arm_named : goal.returns-clause-arm_named
returns-clause-arm_named c = arm_named_right

pub returns-clause-arm_short : goal.returns-clause-arm_short
returns-clause-arm_short c = arm_short_just_where

pub returns-clause-unbuilt : goal.returns-clause-unbuilt
returns-clause-unbuilt c = unbuilt_right
