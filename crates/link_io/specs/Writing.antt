-- The output of a device after a whole write.
use Rattle.std.specs.{Prelude.{◌≡◌, ℕ, ◌<◌, true, List, length, take}, Io.KnownBytes.Appends}
use Rattle.link_io.specs.Device.{Output}
use Rattle.link_io.specs.declared.fault.IoFault.{IoFault}
use Rattle.link_io.specs.declared.fault.IoFault.TheVariants as io

module _ {W : Type 0} where
  -- the bytes were written, and the device did not fail
  pub record WrittenWhole (look : W → Output) (old new : W) (bytes : List ℕ) : Type 0 where
    pub written : Appends (look old).written (look new).written bytes
    pub device : (look new).failed ≡ (look old).failed

  -- a proper prefix of the bytes was written, and then the device failed
  pub record WrittenPrefix (look : W → Output) (old new : W) (bytes : List ℕ)
      (fault : IoFault) : Type 0 where
    pub kind : fault ≡ io.Write
    pub count : ℕ
    pub front : count < length bytes
    pub written : Appends (look old).written (look new).written (take count bytes)
    pub device : (look new).failed ≡ true
