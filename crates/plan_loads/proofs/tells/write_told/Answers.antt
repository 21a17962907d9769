use Rattle.plan_loads.proofs.tells.write_told.Goals as goal

pub returns-in-PlatformRefused : goal.returns-in-PlatformRefused
returns-in-PlatformRefused g c = rw c.in-PlatformRefused.is (rw (c.name.ensures, c.as_text.ensures, c.as_text-in-PlatformRefused.ensures) at c.write_refused.ensures)

pub returns-in-ScriptRefused : goal.returns-in-ScriptRefused
returns-in-ScriptRefused g c = rw c.in-ScriptRefused.is (rw (c.as_text-in-ScriptRefused.ensures, c.format.ensures.text, c.name-in-ScriptRefused.ensures) at c.write_refused-in-ScriptRefused.ensures)

pub returns-in-ReadFault : goal.returns-in-ReadFault
returns-in-ReadFault g c = rw c.in-ReadFault.is (rw c.as_text-in-ReadFault.ensures at c.write_named.ensures)

pub returns-in-WriteFault : goal.returns-in-WriteFault
returns-in-WriteFault g c = rw c.in-WriteFault.is c.write-in-WriteFault.ensures

pub returns-in-NoMemory : goal.returns-in-NoMemory
returns-in-NoMemory g c = rw c.in-NoMemory.is c.write-in-NoMemory.ensures
