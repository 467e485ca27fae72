use Rattle.sa_svg.specs.declared.head.Sample.TheVariants.{Thread, Package, Idle, Section, Unowned, Interrupt, Block, Want, Upcall, Lock, Fetch, Demand, Aimed, Virtual}
use Rattle.sa_svg.proofs.Appends.{sample-as}
use Rattle.sa_svg.proofs.head.push_sample.Goals as goal

pub returns-in-Thread : goal.returns-in-Thread
returns-in-Thread c =
    sample-as c.push_entry.result c.args.out.now.items c.push_entry.new.out.items c.args.entry Thread c.in-Thread.is c.push_entry.ensures

pub returns-in-Package : goal.returns-in-Package
returns-in-Package c =
    sample-as c.push_entry-in-Package.result c.args.out.now.items c.push_entry-in-Package.new.out.items c.args.entry Package c.in-Package.is c.push_entry-in-Package.ensures

pub returns-in-Idle : goal.returns-in-Idle
returns-in-Idle c =
    sample-as c.push_entry-in-Idle.result c.args.out.now.items c.push_entry-in-Idle.new.out.items c.args.entry Idle c.in-Idle.is c.push_entry-in-Idle.ensures

pub returns-in-Section : goal.returns-in-Section
returns-in-Section c =
    sample-as c.push_entry-in-Section.result c.args.out.now.items c.push_entry-in-Section.new.out.items c.args.entry Section c.in-Section.is c.push_entry-in-Section.ensures

pub returns-in-Unowned : goal.returns-in-Unowned
returns-in-Unowned c =
    sample-as c.push_entry-in-Unowned.result c.args.out.now.items c.push_entry-in-Unowned.new.out.items c.args.entry Unowned c.in-Unowned.is c.push_entry-in-Unowned.ensures

pub returns-in-Interrupt : goal.returns-in-Interrupt
returns-in-Interrupt c =
    sample-as c.push_entry-in-Interrupt.result c.args.out.now.items c.push_entry-in-Interrupt.new.out.items c.args.entry Interrupt c.in-Interrupt.is c.push_entry-in-Interrupt.ensures

pub returns-in-Block : goal.returns-in-Block
returns-in-Block c =
    sample-as c.push_entry-in-Block.result c.args.out.now.items c.push_entry-in-Block.new.out.items c.args.entry Block c.in-Block.is c.push_entry-in-Block.ensures

pub returns-in-Want : goal.returns-in-Want
returns-in-Want c =
    sample-as c.push_entry-in-Want.result c.args.out.now.items c.push_entry-in-Want.new.out.items c.args.entry Want c.in-Want.is c.push_entry-in-Want.ensures

pub returns-in-Upcall : goal.returns-in-Upcall
returns-in-Upcall c =
    sample-as c.push_entry-in-Upcall.result c.args.out.now.items c.push_entry-in-Upcall.new.out.items c.args.entry Upcall c.in-Upcall.is c.push_entry-in-Upcall.ensures

pub returns-in-Lock : goal.returns-in-Lock
returns-in-Lock c =
    sample-as c.push_entry-in-Lock.result c.args.out.now.items c.push_entry-in-Lock.new.out.items c.args.entry Lock c.in-Lock.is c.push_entry-in-Lock.ensures

pub returns-in-Fetch : goal.returns-in-Fetch
returns-in-Fetch c =
    sample-as c.push_entry-in-Fetch.result c.args.out.now.items c.push_entry-in-Fetch.new.out.items c.args.entry Fetch c.in-Fetch.is c.push_entry-in-Fetch.ensures

pub returns-in-Demand : goal.returns-in-Demand
returns-in-Demand c =
    sample-as c.push_entry-in-Demand.result c.args.out.now.items c.push_entry-in-Demand.new.out.items c.args.entry Demand c.in-Demand.is c.push_entry-in-Demand.ensures

pub returns-in-Aimed : goal.returns-in-Aimed
returns-in-Aimed c =
    sample-as c.push_entry-in-Aimed.result c.args.out.now.items c.push_entry-in-Aimed.new.out.items c.args.entry Aimed c.in-Aimed.is c.push_entry-in-Aimed.ensures

pub returns-in-Virtual : goal.returns-in-Virtual
returns-in-Virtual c =
    sample-as c.push_entry-in-Virtual.result c.args.out.now.items c.push_entry-in-Virtual.new.out.items c.args.entry Virtual c.in-Virtual.is c.push_entry-in-Virtual.ensures
